-- What stands before an element that passes a test, and after it.
use Rattle.std.proofs.Common.{◌≡◌, ℕ, ◌+◌, ◌-◌, ◌≤◌, Bool, true, false, cond, ltb, List, [], length, take, drop}
use Rattle.std.proofs.Common.{Some, None, refl, sym, ap, ◌∙◌, arith, take_all, drop_of_length-le}
use Rattle.std.specs.List.{position_or_len, position, before_first, after_first}
use Rattle.std.proofs.lemmas.Bool.{ltb-false}
use Rattle.std.proofs.lemmas.List.{take_rest}

found_at : (t : Bool) (k n : ℕ) → Some k ≡ cond t (Some n) None → k ≡ n
found_at true k n e = cc
found_at false k n e = absurd cc

none_at : (m n : ℕ) (t : Bool) → ltb m n ≡ t → None ≡ cond t (Some m) None → n ≤ m
none_at m n true is e = absurd cc
none_at m n false is e = ltb-false m n is

module _ (p : ℕ → Bool) (xs : List ℕ) where
  pub found_before : (k : ℕ) → Some k ≡ position p xs → take k xs ≡ before_first p xs
  found_before k e = ap (λ n. take n xs) (found_at _ k _ e)

  pub found_after : (k : ℕ) → Some k ≡ position p xs → take (length xs - (k + 1)) (drop (k + 1) xs) ≡ after_first p xs
  found_after k e = take_rest xs (k + 1) ∙ ap (λ n. drop (n + 1) xs) (found_at _ k _ e)

  pub not_found_before : None ≡ position p xs → xs ≡ before_first p xs
  not_found_before e = sym (take_all _ _ (none_at _ _ _ refl e))

  pub not_found_after : None ≡ position p xs → [] ≡ after_first p xs
  not_found_after e =
      let past : length xs ≤ position_or_len p xs = none_at _ _ _ refl e in
      sym (drop_of_length-le xs {i = position_or_len p xs + 1} (omega arith))

-- where the element is found, and where it is not
pub ruleset splits = (found_before, found_after, not_found_before, not_found_after)
