use Rattle.std.proofs.Common.{rules, ◌≡◌, cond, Some, None, sym, ap, ◌∙◌, subst, refl}
use Rattle.std.specs.Option.{IsSome}
use Rattle.std.specs.BTreeMap.{is_at}
use Rattle.std.specs.Ordering.{nat_cmp}
use Rattle.std.specs.FinMap as map
use Rattle.std.specs.Cmp.{nat_cmp_total}
use Rattle.la_object.proofs.lemmas.IdOrder.{id_cmp_total, id_cmp-IsAntisymmetric}
use Rattle.la_orset.specs.Index.{tags_or, index_tags, HasTags}
use Rattle.la_object.proofs.lemmas.Sorted.{get-lookup}
use Rattle.la_orset.proofs.Sets.{nothing_in}
use Rattle.la_orset.proofs.LiveTags.{has_tags, still_whole, whole-none, changed_from, put_again, twice, taken-empty}
use Rattle.la_orset.proofs.live_tree.LiveTree.remove.Goals as goal

pub returns-in_default : goal.returns-in_default
returns-in_default c =
    let es = c.self.inside.by_element.entries in let x = c.args.element in
    let none = get-lookup nat_cmp_total es x ∙ sym c.in_default.ensures.value in
    let same = ap (λ m. map.from_entries {R = nat_cmp} m.entries) (sym c.get_mut.follows.holds-at-none) in
    subst
    (λ m.
    HasTags m x (map.remove (index_tags m x) c.args.id) (map.from_entries (c.get_mut.follows.lender-at-none).entries))
    c.self.view_is
    (subst (λ n. HasTags (map.from_entries es) x (map.remove (index_tags (map.from_entries es) x) c.args.id) n) same
    (has_tags (map.from_entries es) (map.from_entries es) x None (λ y. sym (put_again (map.from_entries es) x None none y)) _
    (taken-empty c.args.id ∙ ap (λ g. map.remove (tags_or g) c.args.id) (sym none))))

pub invariant_of-self-then-not-has_any : goal.invariant_of-self-then-not-has_any
invariant_of-self-then-not-has_any c =
    let es = c.self.inside.by_element.entries in let x = c.args.element in let w = c.remove-there.new.self in
    let mid = (c.get_mut.follows.lender w).entries in let new = c.remove.new.self.entries in
    let first =
    changed_from es mid x (Some w) ((c.get_mut.follows.holds w).3 (subst IsSome c.in-Some.ensures.value refl)).0 in
    let second = changed_from mid new x None c.remove.ensures.updates.0 in
    still_whole (map.from_entries es) (map.from_entries new) x None
    (λ y. second y ∙ ap (cond (is_at (nat_cmp x) y) None) (first y) ∙ twice (is_at (nat_cmp x) y) None (Some w) _)
    c.self.invariant whole-none

pub invariant_of-self-then-not-has_any-2 : goal.invariant_of-self-then-not-has_any-2
invariant_of-self-then-not-has_any-2 c =
    let es = c.self.inside.by_element.entries in let x = c.args.element in let w = c.remove-there.new.self in
    let mid = (c.get_mut.follows.lender w).entries in let new = c.remove.new.self.entries in
    let first =
    changed_from es mid x (Some w) ((c.get_mut.follows.holds w).3 (subst IsSome c.in-Some.ensures.value refl)).0 in
    let second = changed_from mid new x None c.remove.ensures.updates.0 in
    still_whole (map.from_entries es) (map.from_entries new) x None
    (λ y. second y ∙ ap (cond (is_at (nat_cmp x) y) None) (first y) ∙ twice (is_at (nat_cmp x) y) None (Some w) _)
    c.self.invariant whole-none

pub returns-then-not-has_any : goal.returns-then-not-has_any
returns-then-not-has_any c =
    let es = c.self.inside.by_element.entries in let x = c.args.element in let w = c.remove-there.new.self in
    let mid = (c.get_mut.follows.lender w).entries in let new = c.remove.new.self.entries in
    let first =
    changed_from es mid x (Some w) ((c.get_mut.follows.holds w).3 (subst IsSome c.in-Some.ensures.value refl)).0 in
    let second = changed_from mid new x None c.remove.ensures.updates.0 in
    let there = get-lookup nat_cmp_total es x ∙ sym c.in-Some.ensures.value in
    let nothing = nothing_in id_cmp_total id_cmp-IsAntisymmetric w (sym c.has_any.ensures ∙ c.if-not-has_any.true) in
    let is : c.match-remove.self ≡ map.from_entries {R = nat_cmp} new = search rules in
    subst (λ n. HasTags c.args.self.now x (map.remove (index_tags c.args.self.now x) c.args.id) n) (sym is)
    (subst (λ m. HasTags m x (map.remove (index_tags m x) c.args.id) (map.from_entries new)) c.self.view_is
    (has_tags (map.from_entries es) (map.from_entries new) x None
    (λ y. second y ∙ ap (cond (is_at (nat_cmp x) y) None) (first y) ∙ twice (is_at (nat_cmp x) y) None (Some w) _) _
    (sym nothing ∙ c.remove-there.ensures ∙ ap (λ g. map.remove (tags_or g) c.args.id) (sym there))))

pub invariant_of-self-else-not-has_any : goal.invariant_of-self-else-not-has_any
invariant_of-self-else-not-has_any c =
    let es = c.self.inside.by_element.entries in let x = c.args.element in let w = c.remove-there.new.self in
    let new = (c.get_mut.follows.lender w).entries in
    let changed =
    changed_from es new x (Some w) ((c.get_mut.follows.holds w).3 (subst IsSome c.in-Some.ensures.value refl)).0 in
    still_whole (map.from_entries es) (map.from_entries new) x (Some w) changed c.self.invariant
    (sym c.if-not-has_any.false ∙ c.has_any.ensures)

pub returns-else-not-has_any : goal.returns-else-not-has_any
returns-else-not-has_any c =
    let es = c.self.inside.by_element.entries in let x = c.args.element in let w = c.remove-there.new.self in
    let new = (c.get_mut.follows.lender w).entries in
    let changed =
    changed_from es new x (Some w) ((c.get_mut.follows.holds w).3 (subst IsSome c.in-Some.ensures.value refl)).0 in
    let there = get-lookup nat_cmp_total es x ∙ sym c.in-Some.ensures.value in
    subst (λ m. HasTags m x (map.remove (index_tags m x) c.args.id) (map.from_entries new)) c.self.view_is
    (has_tags (map.from_entries es) (map.from_entries new) x (Some w) changed _
    (c.remove-there.ensures ∙ ap (λ g. map.remove (tags_or g) c.args.id) (sym there)))
