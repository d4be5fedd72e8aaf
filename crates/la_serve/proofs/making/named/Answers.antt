use Rattle.std.proofs.Common.{◌∙◌, ap}
use Rattle.clap.specs.Simple.{app_of_fields}
use Rattle.clap.specs.declared.builder.command.Command.{Command}
use Rattle.clap.specs.declared.builder.command.Command.TheOpen.{Command-F}
use Rattle.la_serve.proofs.CommandRules.{versioned}
use Rattle.la_serve.proofs.making.named.Goals as goal

pub returns-clause-app : goal.returns-clause-app
returns-clause-app c =
    ap app_of_fields c.about.ensures ∙ ap app_of_fields c.version.ensures ∙ ap versioned c.new.ensures.app

pub returns-clause-local : goal.returns-clause-local
returns-clause-local c =
    ap (λ (f : Command-F Command). f.has_globals) c.about.ensures
    ∙ ap (λ (f : Command-F Command). f.has_globals) c.version.ensures ∙ c.new.ensures.local
