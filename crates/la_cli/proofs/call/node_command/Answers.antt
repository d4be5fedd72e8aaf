use Rattle.std.proofs.Common.{rules, ◌∙◌, ap, true}
use Rattle.clap.specs.Simple.{app_of_fields}
use Rattle.clap.specs.declared.builder.command.Command.{Command}
use Rattle.clap.specs.declared.builder.command.Command.TheOpen.{Command-F}
use Rattle.la_cli.proofs.CommandLines.{only_helps}
use Rattle.la_cli.proofs.call.node_command.Goals as goal

pub returns-clause-app : goal.returns-clause-app
returns-clause-app c =
    ap app_of_fields c.arg_required_else_help.ensures
    ∙ ap (λ (f : Command-F Command). app_of_fields (record f { arg_required_else_help = true }))
    c.subcommand_required.ensures
    ∙ ap (λ (f : Command-F Command). app_of_fields (record f { arg_required_else_help = true; subcommand_required = true })) c.about.ensures
    ∙ ap only_helps c.new.ensures.app

pub returns-clause-local : goal.returns-clause-local
returns-clause-local c = search rules
