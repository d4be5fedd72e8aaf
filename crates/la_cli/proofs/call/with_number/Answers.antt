use Rattle.std.proofs.Common.{rules, ◌∙◌, ap}
use Rattle.std.proofs.lemmas.Result.{IfOk-weaker}
use Rattle.clap.specs.Words.{app_of, with_rule}
use Rattle.la_cli.proofs.call.with_number.Goals as goal

pub returns-clause-app : goal.returns-clause-app
returns-clause-app c least most is =
    IfOk-weaker c.arg.result _ _
    (λ made h.
    h.shape c.number.ensures.local ∙ ap (with_rule (app_of c.args.command)) (c.number.ensures.rule least most is))
    c.arg.ensures

pub returns-clause-local : goal.returns-clause-local
returns-clause-local c none = IfOk-weaker c.arg.result _ _ (λ made h. search rules) c.arg.ensures
