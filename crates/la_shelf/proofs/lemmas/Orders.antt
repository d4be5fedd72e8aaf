-- Where steps commute wherever ids differ, updates with distinct ids lead to one state in any order.
use Rattle.std.proofs.Common.{◌≡◌, ◌≢◌, ℕ, zero, suc, ◌<◌, true, false, List, [], ◌∷◌, length, get_or, set, refl, ap}
use Rattle.std.proofs.Common.{sym, ◌∙◌, subst, arith, inl, inr}
use Rattle.std.specs.Prelude.{◌⊎◌}
use Rattle.std.specs.List.{All, AllByRecursion, swap}
use Rattle.std.specs.List.Sorted.{IsPermutation}
use Rattle.std.proofs.Math.Dec.{eqb}
use Rattle.std.proofs.lemmas.Bool.Decides.{eqb_tells}
use Rattle.std.proofs.lemmas.List.Sorted.{IsPermutation-keeps}
use Rattle.std.proofs.lemmas.List.Elements.{All-from_recursion, recursion_from_All, All-set, All-get_or}
use Rattle.la_set.specs.declared.update.UpdateId.{UpdateId}
use Rattle.la_set.specs.declared.update.Update.{Update}
use Rattle.la_set.specs.Ids.{IsBelow}
use Rattle.la_shelf.specs.Meanings.{Meaning, AreAscending}
use Rattle.la_shelf.specs.Shelves as shelf
use Rattle.la_shelf.specs.Laws.{CommutesById, HaveDistinctIds}

below-differ : (a b : UpdateId) → IsBelow a b → a ≢ b
below-differ a b (inl lt) same = omega (arith, lt, ap (λ (w : UpdateId). w.replica) same)
below-differ a b (inr p) same = omega (arith, p.1, ap (λ (w : UpdateId). w.number) same)

pub ascending-distinct : (us : List Update) → AreAscending us → HaveDistinctIds us
ascending-distinct us ascending = λ i j d lt within. below-differ _ _ (ascending i j d lt within)

-- ## By recursion over a list

abbrev Differs : Update → Update → Type 0
Differs u v = u.id ≢ v.id

abbrev AreDistinct : List Update → Type 0
AreDistinct [] = Unit {0}
AreDistinct (u ∷ us) = AllByRecursion (Differs u) us × AreDistinct us

distinct-recursion : (us : List Update) → HaveDistinctIds us → AreDistinct us
distinct-recursion [] pairs = tt
distinct-recursion (u ∷ us) pairs = (
  recursion_from_All (Differs u) us (λ i d within. pairs 0 (suc i) d (omega arith) (omega (arith, within))),
  distinct-recursion us (λ i j d lt within. pairs (suc i) (suc j) d (omega (arith, lt)) (omega (arith, within))),
)

abbrev Among : List Update → Update → Type 0
Among [] u = ⊥
Among (x ∷ us) u = (x ≡ u) ⊎ Among us u

all_among : (us ts : List Update) → ((u : Update) → Among ts u → Among us u) → AllByRecursion (Among us) ts
all_among us [] sub = tt
all_among us (t ∷ ts) sub = (sub t (inl refl), all_among us ts (λ u a. sub u (inr a)))

other_among : (x u : Update) (us : List Update) → AllByRecursion (Differs x) us → Among us u → x.id ≢ u.id
other_among x u [] other a = absurd a
other_among x u (y ∷ us) other (inl e) = subst (Differs x) e other.0
other_among x u (y ∷ us) other (inr a) = other_among x u us other.1 a

one_of_id : (us : List Update) (u v : Update) → AreDistinct us → Among us u → Among us v → u.id ≡ v.id → u ≡ v
one_of_id [] u v distinct a b same = absurd a
one_of_id (x ∷ us) u v distinct (inl a) (inl b) same = sym a ∙ b
one_of_id (x ∷ us) u v distinct (inl a) (inr b) same =
    absurd (other_among x v us distinct.0 b (ap (λ (w : Update). w.id) a ∙ same))
one_of_id (x ∷ us) u v distinct (inr a) (inl b) same =
    absurd (other_among x u us distinct.0 a (ap (λ (w : Update). w.id) b ∙ sym same))
one_of_id (x ∷ us) u v distinct (inr a) (inr b) same = one_of_id us u v distinct.1 a b same

-- two ids are one, or are not
same_or_not : (a b : UpdateId) → (a ≡ b) ⊎ (a ≢ b)
same_or_not a b = by (eqb_tells a.replica b.replica) (eqb_tells a.number b.number)
  where
    by : (((eqb a.replica b.replica ≡ true) × (a.replica ≡ b.replica)) ⊎
        ((eqb a.replica b.replica ≡ false) × (a.replica ≢ b.replica)))
        → (((eqb a.number b.number ≡ true) × (a.number ≡ b.number)) ⊎
        ((eqb a.number b.number ≡ false) × (a.number ≢ b.number)))
        → (a ≡ b) ⊎ (a ≢ b)
    by (inl p) (inl q) = inl (λ i. record { replica = p.1 i; number = q.1 i })
    by (inr p) _ = inr (λ e. p.1 (ap (λ (w : UpdateId). w.replica) e))
    by (inl p) (inr q) = inr (λ e. q.1 (ap (λ (w : UpdateId). w.number) e))

-- ## Exchanges

module _ {K S Q A : Type 0} (m : Meaning K S Q A) where
  abbrev after : S → Update → S
  after s u = m.after s u

  abbrev steps : S → List Update → S
  steps s us = shelf.steps m s us

  module _ (P : Update → Type 0)
      (swaps : (s : S) (u v : Update) → P u → P v → after (after s u) v ≡ after (after s v) u) where
    at_place : (t : List Update) (j : ℕ) (d : Update) → j < length t → AllByRecursion P t → P (get_or t j d)
    at_place [] j d lt q = absurd (omega arith)
    at_place (x ∷ t) zero d lt q = q.0
    at_place (x ∷ t) (suc j) d lt q = at_place t j d (omega arith) q.1

    exchange : (s : S) (x : Update) (t : List Update) (j : ℕ) (d : Update) → j < length t → P x → AllByRecursion P t
        → steps (after s (get_or t j d)) (set t j x) ≡ steps (after s x) t
    exchange s x [] j d lt qx q = absurd (omega arith)
    exchange s x (y ∷ t) zero d lt qx q = ap (λ r. steps r t) (swaps s y x q.0 qx)
    exchange s x (z ∷ t) (suc j) d lt qx q =
        ap (λ r. steps r (set t j x)) (swaps s (get_or t j d) z (at_place t j d (omega arith) q.1) q.0)
        ∙ exchange (after s z) x t j d (omega arith) qx q.1
        ∙ ap (λ r. steps r t) (swaps s z x q.0 qx)

    steps-swapped : (s : S) (t : List Update) (i j : ℕ) (d : Update) → i < length t → j < length t → AllByRecursion P t
        → steps s (set (set t i (get_or t j d)) j (get_or t i d)) ≡ steps s t
    steps-swapped s [] i j d li lj q = absurd (omega arith)
    steps-swapped s (x ∷ t) zero zero d li lj q = refl
    steps-swapped s (x ∷ t) zero (suc j) d li lj q = exchange s x t j d (omega arith) q.0 q.1
    steps-swapped s (x ∷ t) (suc i) zero d li lj q = exchange s x t i d (omega arith) q.0 q.1
    steps-swapped s (x ∷ t) (suc i) (suc j) d li lj q =
        steps-swapped (after s x) t i j d (omega arith) (omega arith) q.1

    All-swap : (t : List Update) (i j : ℕ) → i < length t → j < length t → All P t → All P (swap t i j)
    All-swap [] i j li lj q = q
    All-swap (d ∷ t) i j li lj q =
        All-set P _ j _ (All-get_or P (d ∷ t) i d li q) (All-set P (d ∷ t) i _ (All-get_or P (d ∷ t) j d lj q) q)

    steps-swap : (s : S) (t : List Update) (i j : ℕ) → i < length t → j < length t → All P t
        → steps s (swap t i j) ≡ steps s t
    steps-swap s [] i j li lj q = absurd (omega arith)
    steps-swap s (d ∷ t) i j li lj q = steps-swapped s (d ∷ t) i j d li lj (recursion_from_All P (d ∷ t) q)

    steps-permuted : (s : S) (us vs : List Update) → All P us → IsPermutation us vs → steps s vs ≡ steps s us
    steps-permuted s us vs q order =
        (IsPermutation-keeps us (λ t. All P t × (steps s t ≡ steps s us)) (q, refl)
        (λ t i j li lj p. (All-swap t i j li lj p.0, steps-swap s t i j li lj p.0 ∙ p.1)) vs order).1

  module _ (by_id : CommutesById m) where
    swap_or_same : (s : S) (u v : Update) → (u.id ≡ v.id → u ≡ v) → after (after s u) v ≡ after (after s v) u
    swap_or_same s u v one = by (same_or_not u.id v.id)
      where
        by : ((u.id ≡ v.id) ⊎ (u.id ≢ v.id)) → after (after s u) v ≡ after (after s v) u
        by (inl e) = let same = one e in λ i. after (after s (same i)) (sym same i)
        by (inr ne) = by_id.swaps s u v ne

    pub steps-IsPermutation : (s : S) (us vs : List Update) → HaveDistinctIds us → IsPermutation us vs
        → steps s vs ≡ steps s us
    steps-IsPermutation s us vs distinct order =
        let here = distinct-recursion us distinct in
        steps-permuted (Among us) (λ t u v a b. swap_or_same t u v (one_of_id us u v here a b)) s us vs
        (All-from_recursion (Among us) us (all_among us us (λ u a. a))) order
