use Rattle.std.proofs.Common.{◌∙◌, ap}
use Rattle.std.proofs.lemmas.Result.{IfOk-weaker}
use Rattle.clap.specs.Words.{app_of, with_rule}
use Rattle.la_call.proofs.OptionLines.{stays_local}
use Rattle.la_call.proofs.reading.with_text.Goals as goal

pub returns-clause-app : goal.returns-clause-app
returns-clause-app c =
    IfOk-weaker c.arg.result _ _
    (λ made h. h.shape c.text.ensures.local ∙ ap (with_rule (app_of c.args.command)) c.text.ensures.rule) c.arg.ensures

pub returns-clause-local : goal.returns-clause-local
returns-clause-local c none =
    IfOk-weaker c.arg.result _ _ (λ made h. stays_local _ _ made h c.text.ensures.local none) c.arg.ensures
