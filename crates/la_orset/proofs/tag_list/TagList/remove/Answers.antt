use Rattle.std.proofs.Common.{◌≡◌, Some, false, sym, ap, ◌∙◌, subst}
use Rattle.std.specs.List.{slice_get, list_any, swap_remove, remove, IsDistinct}
use Rattle.std.specs.FinMap as map
use Rattle.la_object.specs.IdOrder.{id_cmp}
use Rattle.la_orset.specs.Index.{same_id, key_set}
use Rattle.la_orset.proofs.Lists.{at_place, taken_out, taken_last, list-taken, list-taken-distinct, list-absent}
use Rattle.la_orset.proofs.tag_list.TagList.remove.Goals as goal

pub invariant_of-self : goal.invariant_of-self
invariant_of-self c =
    let ids = c.self.inside.ids.items in let id = c.args.id in let place = c.in-Some.place in
    let at = subst (λ ks. slice_get ks place ≡ Some id) c.as_slice.ensures.value c.in-Some.ensures.found in
    subst (IsDistinct same_id) (sym c.remove.ensures.items)
    (list-taken-distinct ids (remove ids place) id c.self.invariant (taken_out ids place id at))

pub invariant_of-self-2 : goal.invariant_of-self-2
invariant_of-self-2 c =
    let ids = c.self.inside.ids.items in let id = c.args.id in let place = c.in-Some.place in
    let at = subst (λ ks. slice_get ks place ≡ Some id) c.as_slice.ensures.value c.in-Some.ensures.found in
    let same : c.swap_remove.result ≡ id =
    c.swap_remove.ensures.value ∙ sym (at_place ids place id c.swap_remove.result at).1 in
    subst (IsDistinct same_id) (sym (c.swap_remove.ensures.items ∙ ap (swap_remove ids place) same))
    (list-taken-distinct ids (swap_remove ids place id) id c.self.invariant (taken_last ids place id at))

pub returns-then-len-le-MAX_TAGS : goal.returns-then-len-le-MAX_TAGS
returns-then-len-le-MAX_TAGS c =
    let ids = c.self.inside.ids.items in let id = c.args.id in let place = c.in-Some.place in
    let at = subst (λ ks. slice_get ks place ≡ Some id) c.as_slice.ensures.value c.in-Some.ensures.found in
    ap (key_set {R = id_cmp}) c.remove.ensures.items
    ∙ list-taken ids (remove ids place) id c.self.invariant (taken_out ids place id at)
    ∙ ap (λ s. map.remove s id) c.self.view_is

pub returns : goal.returns
returns c =
    let ids = c.self.inside.ids.items in let id = c.args.id in let place = c.in-Some.place in
    let at = subst (λ ks. slice_get ks place ≡ Some id) c.as_slice.ensures.value c.in-Some.ensures.found in
    let same : c.swap_remove.result ≡ id =
    c.swap_remove.ensures.value ∙ sym (at_place ids place id c.swap_remove.result at).1 in
    ap (key_set {R = id_cmp}) (c.swap_remove.ensures.items ∙ ap (swap_remove ids place) same)
    ∙ list-taken ids (swap_remove ids place id) id c.self.invariant (taken_last ids place id at)
    ∙ ap (λ s. map.remove s id) c.self.view_is

pub returns-in_default : goal.returns-in_default
returns-in_default c =
    let ids = c.self.inside.ids.items in let id = c.args.id in
    let none = subst (λ ks. list_any (same_id id) ks ≡ false) c.as_slice.ensures.value c.in_default.ensures.none in
    sym c.self.view_is ∙ list-absent ids id none ∙ ap (λ s. map.remove s id) c.self.view_is
