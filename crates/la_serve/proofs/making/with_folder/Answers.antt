use Rattle.std.proofs.Common.{rules, ◌≡◌, ◌∙◌, ap, false}
use Rattle.std.proofs.lemmas.Result.{IfOk-weaker}
use Rattle.clap.specs.Words.{app_of, rule_of, with_rule}
use Rattle.la_serve.specs.Making.{folder_option}
use Rattle.la_serve.proofs.CommandRules.{stays_local}
use Rattle.la_serve.proofs.making.with_folder.Goals as goal

pub returns-clause-app : goal.returns-clause-app
returns-clause-app c =
    let whole : rule_of c.required.result ≡ folder_option = search rules in
    let local : c.required.result.global ≡ false = search rules in
    IfOk-weaker c.arg.result _ _ (λ made h. h.shape local ∙ ap (with_rule (app_of c.args.command)) whole) c.arg.ensures

pub returns-clause-local : goal.returns-clause-local
returns-clause-local c none =
    let local : c.required.result.global ≡ false = search rules in
    IfOk-weaker c.arg.result _ _ (λ made h. stays_local _ _ made h local none) c.arg.ensures
