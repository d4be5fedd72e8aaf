use Rattle.std.proofs.Common.{◌≡◌, ℕ, true, cond, Some, is_some, sym, ap, ◌∙◌, subst, refl}
use Rattle.std.specs.Option.{IsSome}
use Rattle.std.specs.BTreeMap.{is_at}
use Rattle.std.specs.Map.{lookup}
use Rattle.std.specs.Ordering.{nat_cmp}
use Rattle.std.specs.FinMap as map
use Rattle.std.specs.FinMap.{nat_cmp-IsAntisymmetric}
use Rattle.std.specs.Cmp.{nat_cmp_total}
use Rattle.la_object.specs.IdOrder.{id_cmp}
use Rattle.la_orset.specs.Index.{has_any, tags_or, index_tags, HasTags}
use Rattle.la_object.proofs.lemmas.Sorted.{get-lookup}
use Rattle.la_orset.proofs.LiveTags.{has_tags, still_whole, whole-put, changed_from, put_again, on_err}
use Rattle.la_orset.proofs.live_tree.LiveTree.insert.Goals as goal

pub invariant_of-self : goal.invariant_of-self
invariant_of-self c =
    let es = c.self.inside.by_element.entries in let x = c.args.element in let w = c.insert.new.self in
    let new = (c.get_mut.follows.lender w).entries in
    let changed =
    changed_from es new x (Some w) ((c.get_mut.follows.holds w).3 (subst IsSome c.in-Some.ensures.value refl)).0 in
    let there = get-lookup nat_cmp_total es x ∙ sym c.in-Some.ensures.value in
    let one : true ≡ has_any (map.keys w) =
    sym (ap is_some there) ∙ c.self.invariant x ∙ ap (λ g. has_any (map.keys (tags_or g))) there
    ∙ ap (λ t. has_any (map.keys t)) (sym c.in_err-insert.ensures.err) in
    still_whole (map.from_entries es) (map.from_entries new) x (Some w) changed c.self.invariant one

pub returns-in_err-insert-clause-err : goal.returns-in_err-insert-clause-err
returns-in_err-insert-clause-err c =
    let es = c.self.inside.by_element.entries in let x = c.args.element in let w = c.insert.new.self in
    let new = (c.get_mut.follows.lender w).entries in
    let changed =
    changed_from es new x (Some w) ((c.get_mut.follows.holds w).3 (subst IsSome c.in-Some.ensures.value refl)).0 in
    let there = get-lookup nat_cmp_total es x ∙ sym c.in-Some.ensures.value in
    on_err c.from_residual.result _ (map.same_map nat_cmp_total nat_cmp-IsAntisymmetric (map.from_entries new) (map.from_entries es) (λ y.
    changed y
    ∙ ap (λ t. cond (is_at (nat_cmp x) y) (Some t) (map.get (map.from_entries {R = nat_cmp} es) y))
    c.in_err-insert.ensures.err
    ∙ put_again (map.from_entries es) x (Some c.in-Some.tags.now) there y) ∙ c.self.view_is)

pub invariant_of-self-in-Some : goal.invariant_of-self-in-Some
invariant_of-self-in-Some c =
    let es = c.self.inside.by_element.entries in let x = c.args.element in let w = c.insert.new.self in
    let new = (c.get_mut.follows.lender w).entries in
    let changed =
    changed_from es new x (Some w) ((c.get_mut.follows.holds w).3 (subst IsSome c.in-Some.ensures.value refl)).0 in
    still_whole (map.from_entries es) (map.from_entries new) x (Some w) changed c.self.invariant
    (whole-put c.in-Some.tags.now c.args.id ∙ ap (λ t. has_any (map.keys t)) (sym c.in_ok-insert.ensures.ok))

pub returns-in-Some-clause-ok : goal.returns-in-Some-clause-ok
returns-in-Some-clause-ok c =
    let es = c.self.inside.by_element.entries in let x = c.args.element in let w = c.insert.new.self in
    let new = (c.get_mut.follows.lender w).entries in
    let changed =
    changed_from es new x (Some w) ((c.get_mut.follows.holds w).3 (subst IsSome c.in-Some.ensures.value refl)).0 in
    let there = get-lookup nat_cmp_total es x ∙ sym c.in-Some.ensures.value in
    subst (λ m. HasTags m x (map.insert (index_tags m x) c.args.id tt) (map.from_entries new)) c.self.view_is
    (has_tags (map.from_entries es) (map.from_entries new) x (Some w) changed _
    (c.in_ok-insert.ensures.ok ∙ ap (λ g. map.insert (tags_or g) c.args.id tt) (sym there)))

pub invariant_of-self-2 : goal.invariant_of-self-2
invariant_of-self-2 c =
    let es = c.self.inside.by_element.entries in let x = c.args.element in
    let new = c.insert-3.new.self.entries in
    let changed =
    changed_from es new x (Some c.insert-2.new.self)
    (subst
    (λ m.
    (q : ℕ)
    → lookup (is_at (nat_cmp q)) new
    ≡ cond (is_at (nat_cmp x) q) (Some c.insert-2.new.self) (lookup (is_at (nat_cmp q)) m.entries))
    c.get_mut.follows.holds-at-none c.in_ok-insert-3.ensures.updates.0) in
    still_whole (map.from_entries es) (map.from_entries new) x (Some c.insert-2.new.self) changed c.self.invariant
    (whole-put c.new-tags.result c.args.id ∙ ap (λ t. has_any (map.keys t)) (sym c.in_ok-insert-2.ensures.ok))

pub returns-clause-ok : goal.returns-clause-ok
returns-clause-ok c =
    let es = c.self.inside.by_element.entries in let x = c.args.element in
    let new = c.insert-3.new.self.entries in
    let changed =
    changed_from es new x (Some c.insert-2.new.self)
    (subst
    (λ m.
    (q : ℕ)
    → lookup (is_at (nat_cmp q)) new
    ≡ cond (is_at (nat_cmp x) q) (Some c.insert-2.new.self) (lookup (is_at (nat_cmp q)) m.entries))
    c.get_mut.follows.holds-at-none c.in_ok-insert-3.ensures.updates.0) in
    let none = get-lookup nat_cmp_total es x ∙ sym c.in_default.ensures.value in
    subst (λ m. HasTags m x (map.insert (index_tags m x) c.args.id tt) (map.from_entries new)) c.self.view_is
    (has_tags (map.from_entries es) (map.from_entries new) x (Some c.insert-2.new.self) changed _
    (c.in_ok-insert-2.ensures.ok ∙ ap (λ t. map.insert t c.args.id tt) (c.new-tags.ensures ∙ sym (ap tags_or none))))

pub insert-requires : goal.insert-requires
insert-requires c =
    let x = c.args.element in
    let there =
    ap (λ m. map.get m x) (sym c.self.view_is) ∙ get-lookup nat_cmp_total c.self.inside.by_element.entries x
    ∙ sym c.in-Some.ensures.value in
    ap (λ g. map.contains_key (tags_or g) c.args.id) (sym there) ∙ c.requires

pub insert-requires-2 : goal.insert-requires-2
insert-requires-2 c =
    ap (λ s. map.contains_key s c.args.id) c.new-tags.ensures ∙ ap is_some (map.get-empty id_cmp c.args.id)
