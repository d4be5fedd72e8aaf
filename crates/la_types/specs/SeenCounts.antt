-- Eight counts, by their numbers.
use Rattle.std.proofs.Common.{◌≡◌, ℕ, zero, suc, ◌<◌, ◌==◌, cond, max, [], ◌∷◌, get_or, set, replicate, refl, ap, sym}
use Rattle.std.proofs.Common.{◌∙◌, inl, inr, arith}
use Rattle.std.proofs.lemmas.Bool.{cases_eq, eq-eqb, ne_eqb}
use Rattle.std.proofs.lemmas.List.{get_or-set_same, get_or-set_other}
use Rattle.la_set.specs.declared.counts.Counts.{Counts}
use Rattle.la_set.specs.Counts.{count_in, from_counts}
use Rattle.la_types.specs.Seen.{seen_by_either}

pub same_counts : (f g : ℕ → ℕ) → ((r : ℕ) → r < 8 → f r ≡ g r) → from_counts f ≡ from_counts g
unfolding from_counts
same_counts f g same i = record {
  of = same 0 (omega arith) i ∷ same 1 (omega arith) i ∷ same 2 (omega arith) i ∷ same 3 (omega arith) i
      ∷ same 4 (omega arith) i ∷ same 5 (omega arith) i ∷ same 6 (omega arith) i ∷ same 7 (omega arith) i ∷ [];
}

pub count_in-from : (f : ℕ → ℕ) (r : ℕ) → r < 8 → count_in (from_counts f) r ≡ f r
unfolding count_in from_counts
count_in-from f zero lt = refl
count_in-from f (suc zero) lt = refl
count_in-from f (suc (suc zero)) lt = refl
count_in-from f (suc (suc (suc zero))) lt = refl
count_in-from f (suc (suc (suc (suc zero)))) lt = refl
count_in-from f (suc (suc (suc (suc (suc zero))))) lt = refl
count_in-from f (suc (suc (suc (suc (suc (suc zero)))))) lt = refl
count_in-from f (suc (suc (suc (suc (suc (suc (suc zero))))))) lt = refl
count_in-from f (suc (suc (suc (suc (suc (suc (suc (suc r)))))))) lt = absurd (omega arith)

swapped : (a b c : ℕ) → max (max a b) c ≡ max (max a c) b
swapped a b c = omega arith

pub either_swap : (one two three : Counts)
    → seen_by_either (seen_by_either one two) three ≡ seen_by_either (seen_by_either one three) two
either_swap one two three = same_counts _ _ (λ r lt.
    ap (λ n. max n (count_in three r)) (count_in-from (λ q. max (count_in one q) (count_in two q)) r lt)
    ∙ swapped (count_in one r) (count_in two r) (count_in three r)
    ∙ ap (λ n. max n (count_in two r)) (sym (count_in-from (λ q. max (count_in one q) (count_in three q)) r lt)))

zeros_at : (n q : ℕ) → get_or {A = ℕ} (replicate n 0) q 0 ≡ 0
zeros_at zero q = refl
zeros_at (suc n) zero = refl
zeros_at (suc n) (suc q) = zeros_at n q

-- a number at a place among zeros
pub set_count : (replica number r : ℕ) → replica < 8
    → get_or (set (0 ∷ 0 ∷ 0 ∷ 0 ∷ 0 ∷ 0 ∷ 0 ∷ 0 ∷ []) replica number) r 0 ≡ cond (r == replica) number 0
set_count replica number r lt = elim (cases_eq r replica) [
  | inl e ↦
      ap (λ q. get_or (set (0 ∷ 0 ∷ 0 ∷ 0 ∷ 0 ∷ 0 ∷ 0 ∷ 0 ∷ []) replica number) q 0) e
      ∙ get_or-set_same (0 ∷ 0 ∷ 0 ∷ 0 ∷ 0 ∷ 0 ∷ 0 ∷ 0 ∷ []) replica number 0 lt
      ∙ ap (λ b. cond b number 0) (sym (eq-eqb r replica e))
  | inr ne ↦
      get_or-set_other (0 ∷ 0 ∷ 0 ∷ 0 ∷ 0 ∷ 0 ∷ 0 ∷ 0 ∷ []) replica r number 0 ne
      ∙ zeros_at 8 r ∙ ap (λ b. cond b number 0) (sym (ne_eqb r replica ne))
]
