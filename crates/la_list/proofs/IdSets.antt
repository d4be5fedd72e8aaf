-- Sets of ids that are made of keys.
use Rattle.std.proofs.Common.{◌≡◌, true, ◌||◌, Bool, false, cond, List, [], ◌∷◌, length, refl, ap, sym, ◌∙◌, arith}
use Rattle.std.specs.List.{list_any}
use Rattle.std.specs.BTreeMap.{is_at}
use Rattle.std.specs.Ordering.{eq_by_cmp, is_eq}
use Rattle.std.specs.Cmp.{eq_by_cmp_equiv, tied_itself}
use Rattle.std.specs.FinSet as set
use Rattle.std.proofs.lemmas.Bool.{false≢true}
use Rattle.la_set.specs.declared.update.UpdateId.{UpdateId}
use Rattle.la_list.specs.Orders.{id_order, id_total, id_tied}

pub no_ids : (ids : List UpdateId) → length ids ≡ 0 → set.from_list {R = id_order} ids ≡ set.empty
no_ids [] none = refl
no_ids (id ∷ ids) none = absurd (omega arith)

pub of_no_ids : (ids : List UpdateId) → set.from_list {R = id_order} ids ≡ set.empty → length ids ≡ 0
of_no_ids [] is = refl
of_no_ids (id ∷ ids) is =
    absurd
    (false≢true
    (sym (set.contains-empty id_order id) ∙ ap (λ s. set.contains s id) (sym is)
    ∙ set.contains-insert id_total (set.from_list ids) id id
    ∙ ap (λ b. b || set.contains (set.from_list {R = id_order} ids) id) (ap is_eq (tied_itself id_total id))))

as_or : (a b : Bool) → cond a true b ≡ (a || b)
as_or true b = refl
as_or false b = refl

pub one_more_id : (ids more : List UpdateId) (id : UpdateId)
    → ((q : UpdateId) → list_any (is_at (id_order q)) more
    ≡ cond (is_at (id_order id) q) true (list_any (is_at (id_order q)) ids))
    → set.from_list {R = id_order} more ≡ set.insert (set.from_list ids) id
one_more_id ids more id is = set.same_set id_total id_tied _ _ (λ q.
    set.contains-from_list id_total more q ∙ is q
    ∙ as_or (eq_by_cmp id_order id q) (list_any (is_at (id_order q)) ids)
    ∙ (λ i. (eq_by_cmp_equiv id_total).symm id q i || sym (set.contains-from_list id_total ids q) i)
    ∙ sym (set.contains-insert id_total (set.from_list ids) id q))
