use Rattle.std.proofs.Common.{◌≡◌, IfOk, IfErr, sym, ap, ◌∙◌, subst}
use Rattle.std.specs.FinMap as map
use Rattle.std.specs.Cmp.{nat_cmp_total}
use Rattle.la_object.specs.IdOrder.{id_cmp}
use Rattle.la_object.specs.Refusals.{IsObserveRefusal}
use Rattle.la_orset.specs.Index.{tags_or}
use Rattle.la_object.proofs.lemmas.Sorted.{get-lookup}
use Rattle.la_orset.proofs.Sets.{keys-empty}
use Rattle.la_orset.proofs.live_tree.LiveTree.tags.Goals as goal

pub returns-in-Some-clause-ok : goal.returns-in-Some-clause-ok
returns-in-Some-clause-ok c =
    let x = c.args.element in
    let there =
    ap (λ m. map.get m x) (sym c.self.view_is) ∙ get-lookup nat_cmp_total c.self.inside.by_element.entries x
    ∙ sym c.in-Some.ensures.value in
    subst (λ ts. IfOk c.tags.result (λ tags. tags ≡ map.keys ts)) (sym (ap tags_or there)) c.tags.ensures.ok

pub returns-in-Some-clause-error : goal.returns-in-Some-clause-error
returns-in-Some-clause-error c =
    let x = c.args.element in
    let there =
    ap (λ m. map.get m x) (sym c.self.view_is) ∙ get-lookup nat_cmp_total c.self.inside.by_element.entries x
    ∙ sym c.in-Some.ensures.value in
    subst (λ ts. IfErr c.tags.result (IsObserveRefusal (map.keys ts))) (sym (ap tags_or there)) c.tags.ensures.error

pub returns-in-None-clause-ok : goal.returns-in-None-clause-ok
returns-in-None-clause-ok c =
    let x = c.args.element in
    let none =
    ap (λ m. map.get m x) (sym c.self.view_is) ∙ get-lookup nat_cmp_total c.self.inside.by_element.entries x
    ∙ sym c.in-None.ensures.value in
    c.new.ensures ∙ sym (keys-empty id_cmp (Unit {0})) ∙ ap (λ g. map.keys (tags_or g)) (sym none)
