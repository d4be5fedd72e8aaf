-- Counts, and a set within them.
use Rattle.std.proofs.Common.{◌≡◌, ◌≢◌, ℕ, zero, suc, ◌<◌, ◌≤◌, cond, eqb, get_or, set, min, [], ◌∷◌, length, take, refl, ap, sym, ◌∙◌, arith, inl, inr}
use Rattle.std.proofs.lemmas.List.{length-take, length-set, ext_get_or, get_or-set_same, get_or-set_other}
use Rattle.std.proofs.lemmas.Bool.{cases_lt, cases_eq, lt-ltb, le-ltb, eq-eqb, ne_eqb}
use Rattle.la_set.specs.declared.counts.Counts.{Counts}
use Rattle.la_set.specs.Histories.{Histories, history, count}
use Rattle.la_set.specs.Counts.{count_in, from_counts, counts_of, HasCounts, within}
use Rattle.la_set.proofs.lemmas.SetHistories.{history-from_histories, history_past, count_past}

pub count_in-known : (c : Counts) (r : ℕ) → r < 8 → count_in c r ≡ get_or c.of r 0
unfolding count_in
count_in-known c r lt = ap (λ b. cond b (get_or c.of r 0) 0) (lt-ltb r 8 lt)

pub count_in-past : (c : Counts) (r : ℕ) → 8 ≤ r → count_in c r ≡ 0
unfolding count_in
count_in-past c r le = ap (λ b. cond b (get_or c.of r 0) 0) (le-ltb r 8 le)

pub count_in-from_counts : (f : ℕ → ℕ) (r : ℕ) → r < 8 → count_in (from_counts f) r ≡ f r
unfolding count_in from_counts
count_in-from_counts f zero lt = refl
count_in-from_counts f (suc zero) lt = refl
count_in-from_counts f (suc (suc zero)) lt = refl
count_in-from_counts f (suc (suc (suc zero))) lt = refl
count_in-from_counts f (suc (suc (suc (suc zero)))) lt = refl
count_in-from_counts f (suc (suc (suc (suc (suc zero))))) lt = refl
count_in-from_counts f (suc (suc (suc (suc (suc (suc zero)))))) lt = refl
count_in-from_counts f (suc (suc (suc (suc (suc (suc (suc zero))))))) lt = refl
count_in-from_counts f (suc (suc (suc (suc (suc (suc (suc (suc r)))))))) lt = absurd (omega arith)

pub count_in-counts_of : (s : Histories) (r : ℕ) → count_in (counts_of s) r ≡ count s r
count_in-counts_of s r = elim (cases_lt r 8) [
  | inl lt ↦ count_in-from_counts (count s) r lt
  | inr le ↦ count_in-past (counts_of s) r le ∙ sym (count_past s r le)
]

-- the same numbers, one by one
pub same_counts : (f g : ℕ → ℕ) → ((r : ℕ) → r < 8 → f r ≡ g r) → from_counts f ≡ from_counts g
unfolding from_counts
same_counts f g e =
    λ i.
    record {
      of = e 0 (omega arith) i ∷ e 1 (omega arith) i ∷ e 2 (omega arith) i ∷ e 3 (omega arith) i ∷ e 4 (omega arith) i
          ∷ e 5 (omega arith) i ∷ e 6 (omega arith) i ∷ e 7 (omega arith) i ∷ [];
    }

pub count-at : (s : Histories) (c : Counts) (r n : ℕ) → c ≡ counts_of s → n ≡ count_in c r → n ≡ count s r
count-at s c r n is at = at ∙ ap (λ k. count_in k r) is ∙ count_in-counts_of s r

-- a set within counts
pub history-within : (s : Histories) (c : Counts) (r : ℕ) → history (within s c) r ≡ take (count_in c r) (history s r)
unfolding within
history-within s c r = elim (cases_lt r 8) [
  | inl lt ↦ history-from_histories (λ q. take (count_in c q) (history s q)) r lt
  | inr le ↦ history_past _ r le ∙ sym (ap (λ n. take n (history s r)) (count_in-past c r le))
]

pub count-within : (s : Histories) (c : Counts) → HasCounts s c → (r : ℕ) → count (within s c) r ≡ count_in c r
count-within s c has r =
    omega (arith, ap length (history-within s c r), length-take (count_in c r) (history s r), has r)

-- counts that are met replica by replica are met
pub HasCounts-known : (s : Histories) (c : Counts) → ((r : ℕ) → r < 8 → count_in c r ≤ count s r) → HasCounts s c
HasCounts-known s c each r = elim (cases_lt r 8) [
  | inl lt ↦ each r lt
  | inr le ↦ omega (arith, count_in-past c r le)
]

-- counts are their eight numbers
pub eight-counts : (c : Counts) → length c.of ≡ 8 → c ≡ from_counts (λ r. get_or c.of r 0)
unfolding from_counts
eight-counts c eight = let f : ℕ → ℕ = λ r. get_or c.of r 0 in
    ap {B = Counts} (λ numbers. record { of = numbers })
    (ext_get_or 0 c.of (from_counts f).of eight
    (λ r lt.
    sym
    (sym (count_in-known (from_counts f) r (omega (arith, lt, eight)))
    ∙ count_in-from_counts f r (omega (arith, lt, eight)))))

-- counts, one of them capped
abbrev pub capped_at : Counts → ℕ → ℕ → ℕ → ℕ
capped_at c q n r = cond (eqb r q) (min (count_in c r) n) (count_in c r)

module _ (c : Counts) (q n : ℕ) where
  pub capped_at-own : (r : ℕ) → r ≡ q → capped_at c q n r ≡ min (count_in c r) n
  capped_at-own r e = ap (λ b. cond b (min (count_in c r) n) (count_in c r)) (eq-eqb r q e)

  pub capped_at-other : (r : ℕ) → r ≢ q → capped_at c q n r ≡ count_in c r
  capped_at-other r ne = ap (λ b. cond b (min (count_in c r) n) (count_in c r)) (ne_eqb r q ne)

  pub capped-known : (m : ℕ) → length c.of ≡ 8 → q < 8 → m ≡ min (get_or c.of q 0) n
      → record { of = set c.of q m } ≡ from_counts (capped_at c q n)
  capped-known m eight lt is = eight-counts (record { of = set c.of q m }) (length-set c.of q m ∙ eight) ∙ same_counts (λ r. get_or (set c.of q m) r 0) (capped_at c q n) (λ r few. elim (cases_eq r q) [
    | inl e ↦
        ap (λ p. get_or (set c.of q m) p 0) e
        ∙ get_or-set_same c.of q m 0 (omega (arith, lt, eight))
        ∙ is ∙ ap (λ k. min k n) (sym (count_in-known c q lt) ∙ ap (count_in c) (sym e))
        ∙ sym (capped_at-own r e)
    | inr ne ↦ get_or-set_other c.of q r m 0 ne ∙ sym (count_in-known c r few) ∙ sym (capped_at-other r ne)
  ])

  pub capped-past : length c.of ≡ 8 → 8 ≤ q → c ≡ from_counts (capped_at c q n)
  capped-past eight past =
      eight-counts c eight
      ∙ same_counts (λ r. get_or c.of r 0) (capped_at c q n)
      (λ r few. sym (count_in-known c r few) ∙ sym (capped_at-other r (λ e. absurd (omega (arith, e, few, past)))))
