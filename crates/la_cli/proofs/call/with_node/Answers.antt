use Rattle.std.proofs.Common.{◌∙◌, ap}
use Rattle.std.proofs.lemmas.Result.{IfOk-weaker}
use Rattle.clap.specs.Words.{App, app_of, with_subcommand}
use Rattle.la_cli.proofs.call.with_node.Goals as goal

pub returns : goal.returns
returns c = IfOk-weaker c.subcommand.result _ _
    (λ made h.
    h.shape c.node_command.ensures.local
    ∙ ap (λ (a : App). with_subcommand (app_of c.args.command) a.top) c.node_command.ensures.app)
    c.subcommand.ensures
