use Rattle.std.proofs.Common.{sym, ap, ◌∙◌, subst}
use Rattle.std.specs.List.{IsDistinct, insert}
use Rattle.std.specs.FinMap as map
use Rattle.la_object.specs.IdOrder.{id_cmp}
use Rattle.la_orset.specs.Index.{same_id, key_set}
use Rattle.la_orset.proofs.Lists.{contains-list, list-put, list-put-distinct}
use Rattle.la_orset.proofs.tag_list.TagList.insert.Goals as goal

pub invariant_of-self-2 : goal.invariant_of-self-2
invariant_of-self-2 c =
    let ids = c.self.inside.ids.items in let id = c.args.id in let place = c.place_for-place.result in
    let none = sym (contains-list ids id) ∙ ap (λ s. map.contains_key s id) c.self.view_is ∙ c.requires in
    subst (IsDistinct same_id) (sym (c.in_ok-insert_at.ensures.ok ∙ ap (λ ks. insert ks place id) c.make_room.ensures))
    (list-put-distinct ids place id c.self.invariant none)

pub returns-clause-ok : goal.returns-clause-ok
returns-clause-ok c =
    let ids = c.self.inside.ids.items in let id = c.args.id in let place = c.place_for-place.result in
    ap (key_set {R = id_cmp}) (c.in_ok-insert_at.ensures.ok ∙ ap (λ ks. insert ks place id) c.make_room.ensures)
    ∙ list-put ids place id ∙ ap (λ s. map.insert s id tt) c.self.view_is
