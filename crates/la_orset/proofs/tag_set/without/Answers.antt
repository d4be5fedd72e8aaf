use Rattle.std.proofs.Common.{◌≡◌, sym, ap, ◌∙◌}
use Rattle.std.specs.FinMap as map
use Rattle.la_orset.specs.Few.{few_tags, only_tag}
use Rattle.la_orset.proofs.LiveTags.{taken-only, kept-only, same-id, other-id}
use Rattle.la_orset.proofs.tag_set.without.Goals as goal

pub returns-then-eq : goal.returns-then-eq
returns-then-eq c =
    let id = c.args.id in let there = c.in-One.there in
    let same : id ≡ there = sym (same-id there id (sym c.eq.ensures ∙ c.if-eq.true)) in
    c.new.ensures ∙ taken-only id ∙ ap (λ t. map.remove t id) (ap only_tag same ∙ sym (ap few_tags c.in-One.is))

pub returns-else-eq : goal.returns-else-eq
returns-else-eq c =
    let id = c.args.id in let there = c.in-One.there in
    kept-only there id (other-id there id (sym c.eq.ensures ∙ c.if-eq.false))
    ∙ ap (λ t. map.remove t id) (sym (ap few_tags c.in-One.is))
