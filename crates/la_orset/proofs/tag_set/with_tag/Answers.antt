use Rattle.std.proofs.Common.{sym, ap, ◌∙◌}
use Rattle.std.specs.FinMap as map
use Rattle.la_object.proofs.lemmas.IdOrder.{id_cmp_total, id_cmp-IsAntisymmetric}
use Rattle.la_orset.specs.Few.{few_tags}
use Rattle.la_orset.proofs.Sets.{nothing_in}
use Rattle.la_orset.proofs.tag_set.with_tag.Goals as goal

pub returns-then-not-has_any-clause-ok : goal.returns-then-not-has_any-clause-ok
returns-then-not-has_any-clause-ok c =
    let nothing =
    nothing_in id_cmp_total id_cmp-IsAntisymmetric c.in-List.list (sym c.has_any.ensures ∙ c.if-not-has_any.true) in
    ap (λ t. map.insert t c.args.id tt) (sym nothing ∙ sym (ap few_tags c.in-List.is))
