use Rattle.std.proofs.Common.{◌∙◌, ap, ap₂}
use Rattle.std.proofs.lemmas.Result.{IfOk-weaker}
use Rattle.clap.specs.Words.{App, with_subcommand}
use Rattle.la_serve.proofs.making.program.Goals as goal

pub returns : goal.returns
returns c = IfOk-weaker c.subcommand.result _ _
    (λ made h.
    h.shape c.in_ok-init.ensures.local
    ∙ ap₂ with_subcommand c.alone.ensures (ap (λ (a : App). a.top) c.in_ok-init.ensures.app)) c.subcommand.ensures
