use Rattle.std.proofs.Common.{◌∙◌, ap, ap₂}
use Rattle.std.proofs.lemmas.Result.{IfOk-weaker}
use Rattle.clap.specs.Words.{App, with_subcommand}
use Rattle.la_cli.specs.Calls.{node_app, random, threads}
use Rattle.la_cli.proofs.call.program.Goals as goal

pub returns : goal.returns
returns c =
    let plays =
    c.in_ok-plays.ensures.shape c.play_command.ensures.local
    ∙ ap₂ with_subcommand c.alone.ensures (ap (λ (a : App). a.top) c.play_command.ensures.app) in
    let draws = c.in_ok-draws.ensures ∙ ap (λ (a : App). with_subcommand a random.top) plays in
    let runs = c.in_ok-runs.ensures ∙ ap (λ (a : App). with_subcommand a threads.top) draws in
    record {
      app =
          IfOk-weaker c.with_node.result _ _ (λ made h. h ∙ ap (λ (a : App). with_subcommand a node_app.top) runs)
          c.with_node.ensures;
    }
