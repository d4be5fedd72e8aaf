-- Whole lines.
use Rattle.std.proofs.Common.{◌≡◌, ℕ, zero, suc, ◌-◌, ◌==◌, Bool, List, [], ◌∷◌, ◌++◌, length, Some, refl, ap, arith}
use Rattle.std.specs.Prelude.{slice_get}
use Rattle.std.proofs.lemmas.Option.{none-some, same_Some, slice_get_within}
use Rattle.la_tick.specs.Ticks.{ends_behind}

pub ends_append : (e : Bool) (xs ys : List ℕ) → ends_behind e (xs ++ ys) ≡ ends_behind (ends_behind e xs) ys
ends_append e [] ys = refl
ends_append e (x ∷ xs) ys = ends_append (x == 10) xs ys

ends_at : (e : Bool) (xs : List ℕ) (n b : ℕ) → length xs ≡ suc n → slice_get xs n ≡ Some b
    → ends_behind e xs ≡ (b == 10)
ends_at e [] n b long is = absurd (none-some b is)
ends_at e (x ∷ []) zero b long is = ap (λ (k : ℕ). k == 10) (same_Some x b is)
ends_at e (x ∷ []) (suc n) b long is = absurd (none-some b is)
ends_at e (x ∷ y ∷ xs) zero b long is = absurd (omega arith)
ends_at e (x ∷ y ∷ xs) (suc n) b long is = ends_at (x == 10) (y ∷ xs) n b (omega arith) is

-- the last byte says it
pub ends_by_last : (e : Bool) (xs : List ℕ) (b : ℕ) → slice_get xs (length xs - 1) ≡ Some b
    → ends_behind e xs ≡ (b == 10)
ends_by_last e xs b is =
    let some = slice_get_within xs (length xs - 1) b is in ends_at e xs (length xs - 1) b (omega arith) is
