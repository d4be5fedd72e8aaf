-- A set and its eight histories.
use Rattle.std.proofs.Common.{◌≡◌, ◌≢◌, ℕ, zero, suc, ◌-◌, ◌<◌, ◌≤◌, cond, eqb, List, [], ◌∷◌, ◌++◌, length, take, refl, ap, sym, ◌∙◌, arith, inl, inr}
use Rattle.std.proofs.lemmas.List.{get_or_past, length-append, length-take, nil_from_length, take_all}
use Rattle.std.proofs.lemmas.Bool.{cases_lt, cases_eq, eq-eqb, ne_eqb}
use Rattle.la_set.specs.declared.update.Update.{Update}
use Rattle.la_set.specs.ObjectOps.{ObjectOp, object_op_of}
use Rattle.la_set.specs.Histories.{Histories, history, from_histories, with_history, empty, count, push, pop, IsNext, IsWithinLimit}

pub history-from_histories : (h : ℕ → List ObjectOp) (r : ℕ) → r < 8 → history (from_histories h) r ≡ h r
unfolding history from_histories
history-from_histories h zero lt = refl
history-from_histories h (suc zero) lt = refl
history-from_histories h (suc (suc zero)) lt = refl
history-from_histories h (suc (suc (suc zero))) lt = refl
history-from_histories h (suc (suc (suc (suc zero)))) lt = refl
history-from_histories h (suc (suc (suc (suc (suc zero))))) lt = refl
history-from_histories h (suc (suc (suc (suc (suc (suc zero)))))) lt = refl
history-from_histories h (suc (suc (suc (suc (suc (suc (suc zero))))))) lt = refl
history-from_histories h (suc (suc (suc (suc (suc (suc (suc (suc r)))))))) lt = absurd (omega arith)

pub history_past : (s : Histories) (r : ℕ) → 8 ≤ r → history s r ≡ []
unfolding history
history_past s r past =
    get_or_past (s.of_0 ∷ s.of_1 ∷ s.of_2 ∷ s.of_3 ∷ s.of_4 ∷ s.of_5 ∷ s.of_6 ∷ s.of_7 ∷ []) r [] past

pub same_histories : (s t : Histories) → ((r : ℕ) → r < 8 → history s r ≡ history t r) → s ≡ t
unfolding history
same_histories s t e = λ i. record {
  of_0 = e 0 (omega arith) i;
  of_1 = e 1 (omega arith) i;
  of_2 = e 2 (omega arith) i;
  of_3 = e 3 (omega arith) i;
  of_4 = e 4 (omega arith) i;
  of_5 = e 5 (omega arith) i;
  of_6 = e 6 (omega arith) i;
  of_7 = e 7 (omega arith) i;
}

pub history-empty : (r : ℕ) → history empty r ≡ []
unfolding empty
history-empty r = elim (cases_lt r 8) [ inl lt ↦ history-from_histories (λ q. []) r lt | inr le ↦ history_past _ r le ]

pub history-with_same : (s : Histories) (q : ℕ) (ds : List ObjectOp) (r : ℕ) → q < 8 → r ≡ q
    → history (with_history s q ds) r ≡ ds
unfolding with_history
history-with_same s q ds r lt e =
    history-from_histories (λ p. cond (eqb p q) ds (history s p)) r (omega arith) ∙ rw (eq-eqb r q e)

pub history-with_other : (s : Histories) (q : ℕ) (ds : List ObjectOp) (r : ℕ) → r ≢ q
    → history (with_history s q ds) r ≡ history s r
unfolding with_history
history-with_other s q ds r ne = elim (cases_lt r 8) [
  | inl lt ↦ history-from_histories (λ p. cond (eqb p q) ds (history s p)) r lt ∙ rw (ne_eqb r q ne)
  | inr le ↦ history_past _ r le ∙ sym (history_past s r le)
]

pub count_past : (s : Histories) (r : ℕ) → 8 ≤ r → count s r ≡ 0
count_past s r past = ap length (history_past s r past)

pub known_from_count : (s : Histories) (r : ℕ) → 0 < count s r → r < 8
known_from_count s r some = elim (cases_lt r 8) [ inl lt ↦ lt | inr le ↦ absurd (omega (arith, count_past s r le)) ]

pub with_history-history : (s : Histories) (r : ℕ) → r < 8 → with_history s r (history s r) ≡ s
with_history-history s r lt = same_histories _ _ (λ q _. elim (cases_eq q r) [
  | inl e ↦ history-with_same s r (history s r) q lt e ∙ ap (history s) (sym e)
  | inr ne ↦ history-with_other s r (history s r) q ne
])

pub with_history-with_history : (s : Histories) (r : ℕ) (xs ys : List ObjectOp) → r < 8
    → with_history (with_history s r xs) r ys ≡ with_history s r ys
with_history-with_history s r xs ys lt = same_histories _ _ (λ q _. elim (cases_eq q r) [
  | inl e ↦ history-with_same (with_history s r xs) r ys q lt e ∙ sym (history-with_same s r ys q lt e)
  | inr ne ↦ history-with_other (with_history s r xs) r ys q ne ∙ history-with_other s r xs q ne ∙ sym (history-with_other s r ys q ne)
])

-- what a further update, or one fewer, leaves within the limit
pub count-push : (s : Histories) (u : Update) → IsNext s u.id → IsWithinLimit s → IsWithinLimit (push s u)
count-push s u next within r =
    let q = u.id.replica in
    elim (cases_eq r q) [
      | inl e ↦ omega (arith, ap length (history-with_same s q (history s q ++ object_op_of u ∷ []) r next.known e), length-append (history s q) (object_op_of u ∷ []), next.next, next.within)
      | inr ne ↦ omega (arith, ap length (history-with_other s q (history s q ++ object_op_of u ∷ []) r ne), within r)
    ]

pub count-edited : (s : Histories) (q : ℕ) (ds : List ObjectOp) → q < 8 → length ds ≤ 1000000 → IsWithinLimit s
    → IsWithinLimit (with_history s q ds)
count-edited s q ds known few within r = elim (cases_eq r q) [
  | inl e ↦ omega (arith, ap length (history-with_same s q ds r known e))
  | inr ne ↦ omega (arith, ap length (history-with_other s q ds r ne), within r)
]

pub count-shortened : (s : Histories) (q n : ℕ) → q < 8 → IsWithinLimit s
    → IsWithinLimit (with_history s q (take n (history s q)))
count-shortened s q n known within r = elim (cases_eq r q) [
  | inl e ↦ omega (arith, ap length (history-with_same s q (take n (history s q)) r known e), length-take n (history s q), within q)
  | inr ne ↦ omega (arith, ap length (history-with_other s q (take n (history s q)) r ne), within r)
]

-- nothing to take out
pub pop_none : (s : Histories) (r : ℕ) → count s r ≡ 0 → s ≡ pop s r
pop_none s r none = same_histories _ _ (λ q lt. elim (cases_eq q r) [
  | inl e ↦ ap (history s) e ∙ nil_from_length (history s r) none ∙ sym (ap (take (count s r - 1)) (nil_from_length (history s r) none) ∙ ap (λ n. take n []) {x = count s r - 1} {y = 0} (omega (arith, none))) ∙ sym (history-with_same s r _ q (omega arith) e)
  | inr ne ↦ sym (history-with_other s r _ q ne)
])

-- nothing to cut off
pub shortened-none : (s : Histories) (r n : ℕ) → count s r ≤ n → s ≡ with_history s r (take n (history s r))
shortened-none s r n le = same_histories _ _ (λ q lt. elim (cases_eq q r) [
  | inl e ↦ ap (history s) e ∙ sym (take_all n (history s r) le) ∙ sym (history-with_same s r _ q (omega (arith, lt, e)) e)
  | inr ne ↦ sym (history-with_other s r _ q ne)
])
