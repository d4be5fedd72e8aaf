use Rattle.std.proofs.Common.{◌≡◌, ◌∙◌, ap, false, true}
use Rattle.std.proofs.lemmas.Result.{IfOk-weaker}
use Rattle.clap.specs.Words.{Rule, app_of, rule_of, with_rule}
use Rattle.la_serve.proofs.CommandRules.{stays_local}
use Rattle.la_serve.proofs.options.with_own.Goals as goal

pub returns-clause-app : goal.returns-clause-app
returns-clause-app c =
    let rule =
    c.number-own.ensures.rule 0 7
    (rw (c.value_parser.ensures, c.new.ensures.start, c.new.ensures.end) at c.range-places.ensures) in
    let local : c.required.result.global ≡ false = ap (λ a. a.global) c.required.ensures ∙ c.number-own.ensures.local in
    let whole = ap rule_of c.required.ensures ∙ ap (λ (r : Rule). record r { required = true }) rule in
    IfOk-weaker c.arg.result _ _ (λ made h. h.shape local ∙ ap (with_rule (app_of c.args.command)) whole) c.arg.ensures

pub returns-clause-local : goal.returns-clause-local
returns-clause-local c none =
    let local : c.required.result.global ≡ false = ap (λ a. a.global) c.required.ensures ∙ c.number-own.ensures.local in
    IfOk-weaker c.arg.result _ _ (λ made h. stays_local _ _ made h local none) c.arg.ensures
