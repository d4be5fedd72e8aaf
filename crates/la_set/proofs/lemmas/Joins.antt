-- The join of two sets: its histories and its members.
use Rattle.std.proofs.Common.{◌≡◌, ◌⊎◌, ℕ, zero, suc, ◌+◌, ◌-◌, ◌≤◌, List, [], ◌∷◌, ◌++◌, append-nil, length, drop, Some, refl, ap, sym, ◌∙◌, subst, arith, inl, inr}
use Rattle.std.specs.List.{slice_get}
use Rattle.std.proofs.lemmas.List.{take_at, drop_all}
use Rattle.std.proofs.lemmas.Option.{none-some, slice_get-get_or}
use Rattle.std.proofs.lemmas.Bool.{cases_lt}
use Rattle.la_set.specs.declared.update.Update.{Update}
use Rattle.la_set.specs.ObjectOps.{ObjectOp, object_op_of}
use Rattle.la_set.specs.Histories.{Histories, history, object_op_number, ContainsUpdate}
use Rattle.la_set.specs.Inclusion.{IsSubset}
use Rattle.la_set.specs.Join.{joined, join, HasNoMore, IsCompatible}
use Rattle.la_set.proofs.lemmas.NumberedLists.{slice_get-append_left, slice_get-append_right}
use Rattle.la_set.proofs.lemmas.Prefixes.{IsPrefix, IsPrefix-from_reads}
use Rattle.la_set.proofs.lemmas.SetHistories.{same_histories, history-from_histories, history_past}
use Rattle.la_set.proofs.lemmas.Inclusions.{object_op-contains, contains-object_op, prefix-subset, subset-refl, subset-antisym, compatible-agree, compatible-within}

-- ## One replica's histories

pub slice_get-drop : {X : Type 0} (n : ℕ) (xs : List X) (k : ℕ) → slice_get (drop n xs) k ≡ slice_get xs (n + k)
slice_get-drop zero xs k = ap (slice_get xs) {x = k} {y = 0 + k} (omega arith)
slice_get-drop (suc n) [] k = refl
slice_get-drop (suc n) (x ∷ xs) k =
    slice_get-drop n xs k ∙ ap (slice_get (x ∷ xs)) {x = suc (n + k)} {y = suc n + k} (omega arith)

-- past the first history stands what the second has there
joined_past : (xs ys : List ObjectOp) (k : ℕ) → length xs ≤ k → slice_get (joined xs ys) k ≡ slice_get ys k
joined_past xs ys k le =
    ap (slice_get (joined xs ys)) {x = k} {y = length xs + (k - length xs)} (omega arith)
    ∙ slice_get-append_right xs (drop (length xs) ys) (k - length xs)
    ∙ slice_get-drop (length xs) ys (k - length xs)
    ∙ ap (slice_get ys) {x = length xs + (k - length xs)} {y = k} (omega arith)

joined_cases : (xs ys : List ObjectOp) (k : ℕ) (d : ObjectOp) → slice_get (joined xs ys) k ≡ Some d
    → (slice_get xs k ≡ Some d) ⊎ (slice_get ys k ≡ Some d)
joined_cases xs ys k d e = elim (cases_lt k (length xs)) [
  | inl lt ↦ inl (sym (slice_get-append_left xs (drop (length xs) ys) k lt) ∙ e)
  | inr le ↦ inr (sym (joined_past xs ys k le) ∙ e)
]

joined_number : (xs ys : List ObjectOp) (n : ℕ) (d : ObjectOp) → object_op_number (joined xs ys) n ≡ Some d
    → (object_op_number xs n ≡ Some d) ⊎ (object_op_number ys n ≡ Some d)
joined_number xs ys zero d e = absurd (none-some d e)
joined_number xs ys (suc k) d e = joined_cases xs ys k d e

joined_first : (xs ys : List ObjectOp) → IsPrefix xs (joined xs ys)
joined_first xs ys = record { front = sym (take_at xs (drop (length xs) ys) (length xs) refl) }

joined_second : (xs ys : List ObjectOp)
    → ((k : ℕ) (d e : ObjectOp) → slice_get xs k ≡ Some d → slice_get ys k ≡ Some e → d ≡ e) → IsPrefix ys (joined xs ys)
joined_second xs ys agree = IsPrefix-from_reads ys (joined xs ys) (λ k e got. elim (cases_lt k (length xs)) [
  | inl lt ↦
      let mine = slice_get-get_or xs k e lt in
      slice_get-append_left xs (drop (length xs) ys) k lt ∙ mine ∙ ap Some (agree k _ e mine got)
  | inr le ↦ joined_past xs ys k le ∙ got
])

-- ## Sets

pub history-join : (a b : Histories) (r : ℕ) → history (join a b) r ≡ joined (history a r) (history b r)
unfolding join
history-join a b r = elim (cases_lt r 8) [
  | inl lt ↦ history-from_histories (λ q. joined (history a q) (history b q)) r lt
  | inr le ↦ history_past _ r le ∙ sym (ap (λ ds. joined ds (history b r)) (history_past a r le) ∙ ap (joined []) (history_past b r le))
]

pub contains-join_cases : (a b : Histories) (u : Update) → ContainsUpdate (join a b) u
    → ContainsUpdate a u ⊎ ContainsUpdate b u
contains-join_cases a b u e =
    let r = u.id.replica in let n = u.id.number in
    let got : object_op_number (joined (history a r) (history b r)) n ≡ Some (object_op_of u) =
    subst (λ ds. object_op_number ds n ≡ Some (object_op_of u)) (history-join a b r)
    (object_op-contains (join a b) u e) in
    elim (joined_number (history a r) (history b r) n (object_op_of u) got) [
      | inl p ↦ inl (contains-object_op a u p)
      | inr p ↦ inr (contains-object_op b u p)
    ]

pub subset-join_left : (a b : Histories) → IsSubset a (join a b)
subset-join_left a b =
    prefix-subset a (join a b)
    (λ r. subst (IsPrefix (history a r)) (sym (history-join a b r)) (joined_first (history a r) (history b r)))

pub subset-join_right : (a b : Histories) → IsCompatible a b → IsSubset b (join a b)
subset-join_right a b one =
    prefix-subset b (join a b)
    (λ r.
    subst (IsPrefix (history b r)) (sym (history-join a b r))
    (joined_second (history a r) (history b r) (compatible-agree a b one r)))

pub join-least : (a b c : Histories) → IsSubset a c → IsSubset b c → IsSubset (join a b) c
join-least a b c ac bc u e = elim (contains-join_cases a b u e) [ inl p ↦ ac u p | inr p ↦ bc u p ]

-- the members of a join are those of either
pub contains-join : (a b : Histories) → IsCompatible a b → (u : Update) → ContainsUpdate a u ⊎ ContainsUpdate b u
    → ContainsUpdate (join a b) u
contains-join a b one u e = elim e [ inl p ↦ subset-join_left a b u p | inr p ↦ subset-join_right a b one u p ]

pub join-subset : (a b : Histories) → IsSubset a b → join a b ≡ b
join-subset a b sub =
    subset-antisym _ _ (join-least a b b sub (subset-refl b))
    (subset-join_right a b (compatible-within a b b sub (subset-refl b)))

pub join-superset : (a b : Histories) → IsSubset b a → join a b ≡ a
join-superset a b sub = subset-antisym _ _ (join-least a b a (subset-refl a) sub) (subset-join_left a b)

-- a join that has nothing to add
pub join-nothing : (a b : Histories) → HasNoMore b a → join a b ≡ a
join-nothing a b less =
    same_histories _ _
    (λ r lt.
    history-join a b r ∙ ap (λ ds. history a r ++ ds) (drop_all (length (history a r)) (history b r) (less r))
    ∙ append-nil (history a r))

module _ (f : Histories) where
  pub join_comm : (a b : Histories) → IsSubset a f → IsSubset b f → join a b ≡ join b a
  join_comm a b in_a in_b =
      let one = compatible-within a b f in_a in_b in let back = compatible-within b a f in_b in_a in
      subset-antisym _ _
      (join-least a b (join b a) (subset-join_right b a back) (subset-join_left b a))
      (join-least b a (join a b) (subset-join_right a b one) (subset-join_left a b))

  pub join_assoc : (a b c : Histories) → IsSubset a f → IsSubset b f → IsSubset c f
      → join (join a b) c ≡ join a (join b c)
  join_assoc a b c in_a in_b in_c =
      let ab = compatible-within a b f in_a in_b in
      let bc = compatible-within b c f in_b in_c in
      let ab_c = compatible-within (join a b) c f (join-least a b f in_a in_b) in_c in
      let a_bc = compatible-within a (join b c) f in_a (join-least b c f in_b in_c) in
      let left : IsSubset (join (join a b) c) (join a (join b c)) =
      λ u e. elim (contains-join_cases (join a b) c u e) [
        | inl p ↦ elim (contains-join_cases a b u p) [ inl q ↦ subset-join_left a (join b c) u q | inr q ↦ subset-join_right a (join b c) a_bc u (subset-join_left b c u q) ]
        | inr p ↦ subset-join_right a (join b c) a_bc u (subset-join_right b c bc u p)
      ] in
      let right : IsSubset (join a (join b c)) (join (join a b) c) =
      λ u e. elim (contains-join_cases a (join b c) u e) [
        | inl p ↦ subset-join_left (join a b) c u (subset-join_left a b u p)
        | inr p ↦ elim (contains-join_cases b c u p) [ inl q ↦ subset-join_left (join a b) c u (subset-join_right a b ab u q) | inr q ↦ subset-join_right (join a b) c ab_c u q ]
      ] in
      subset-antisym _ _ left right
