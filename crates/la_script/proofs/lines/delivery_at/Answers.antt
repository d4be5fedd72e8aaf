use Rattle.std.proofs.Common.{◌≡◌, ◌++◌, get_or, rules, ap, ◌∙◌}
use Rattle.std.proofs.lemmas.Bool.Decides.{Decides-eqb}
use Rattle.std.proofs.lemmas.Slice.Eq.{strip_prefix_is}
use Rattle.la_script.specs.Forms.{spelling}
use Rattle.la_script.specs.declared.forms.Keyword.TheVariants as keyword
use Rattle.la_script.proofs.Deliveries.{delivered}
use Rattle.la_script.proofs.lines.delivery_at.Goals as goal

pub returns : goal.returns
returns c =
    let space : get_or c.in_ok-rest.rest.now 0 0 ≡ 32 = search rules in
    let parts : c.args.line.now ≡ c.spelling.result.now ++ c.in_ok-rest.rest.now =
    rw c.in_ok-rest.was at
    (strip_prefix_is Decides-eqb c.args.line.now c.spelling.result.now c.strip_prefix.result
    c.strip_prefix.ensures.cases) in
    let line : c.args.line.now ≡ spelling keyword.Deliver ++ c.in_ok-rest.rest.now =
    parts ∙ ap (λ word. word ++ c.in_ok-rest.rest.now) c.spelling.ensures in
    delivered c.args.line.now c.in_ok-rest.rest.now line c.in-32.len_at_least space c.number.result
    c.number.ensures.exact
