use Rattle.std.proofs.Common.{[], ◌∷◌, ◌++◌, sym, ap, ◌∙◌, subst}
use Rattle.std.specs.List.Sorted.{IsStrictlySortedBy}
use Rattle.la_object.specs.IdOrder.{id_cmp}
use Rattle.la_object.proofs.lemmas.IdOrder.{id_cmp_total, id_cmp-IsAntisymmetric}
use Rattle.la_orset.proofs.Sets.{keys-set_of, sorted-units}
use Rattle.la_orset.proofs.Filling.{last_tag, one_sorted}
use Rattle.la_orset.proofs.tag_set.only.Goals as goal

pub returns-in-Ok-clause-ok : goal.returns-in-Ok-clause-ok
returns-in-Ok-clause-ok c =
    let id = c.args.id in let tags = c.new-tags.result in
    let sorted = one_sorted id in
    c.in-Ok.ensures.ok
    ∙ last_tag tags id [] c.in-Ok.field-0
    (subst (λ ts. IsStrictlySortedBy id_cmp (ts ++ id ∷ [])) (sym c.new-tags.ensures) sorted) c.in-Ok.ensures.new
    ∙ ap (λ ts. ts ++ id ∷ []) c.new-tags.ensures
    ∙ sym
    (keys-set_of id_cmp_total id_cmp-IsAntisymmetric (id ∷ [])
    (sorted-units id_cmp_total id_cmp-IsAntisymmetric (id ∷ []) sorted))
