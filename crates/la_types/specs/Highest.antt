-- The highest of the numbers that a list's items have.
use Rattle.std.proofs.Common.{◌≡◌, ◌⊎◌, ℕ, zero, suc, ◌<◌, ◌≤◌, nat_le, max, Bool, true, false, ◌||◌, List, []}
use Rattle.std.proofs.Common.{◌∷◌, length, get_or, All, refl, ap, sym, ◌∙◌, inl, inr, arith}
use Rattle.std.specs.List.{Any, list_any}
use Rattle.std.proofs.lemmas.Bool.{cases_lt, cases_Bool, false≢true}
use Rattle.std.proofs.lemmas.List.{get_or_default}
use Rattle.std.proofs.lemmas.List.Folds.{list_any-from_Any}

pub no_more : (n : ℕ) → n ≡ max n 0
no_more n = omega arith

le_max : (n a b : ℕ) → nat_le n (max a b) ≡ (nat_le n a || nat_le n b)
le_max n a b = grind arith

or_assoc : (a b c : Bool) → ((a || b) || c) ≡ (a || (b || c))
or_assoc true b c = refl
or_assoc false b c = refl

module _ {X : Type 0} where
  -- the highest of a number and of those of items
  unfoldable pub highest : (X → ℕ) → ℕ → List X → ℕ
  highest f n [] = n
  highest f n (x ∷ xs) = highest f (max n (f x)) xs

  highest-from : (f : X → ℕ) (n : ℕ) (xs : List X) → n ≤ highest f n xs
  unfolding highest
  highest-from f n [] = omega arith
  highest-from f n (x ∷ xs) = omega (arith, highest-from f (max n (f x)) xs)

  pub highest-above : (f : X → ℕ) (n : ℕ) (xs : List X) (k : ℕ) (d : X) → k < length xs
      → f (get_or xs k d) ≤ highest f n xs
  unfolding highest
  highest-above f n [] k d lt = absurd (omega arith)
  highest-above f n (x ∷ xs) zero d lt = omega (arith, highest-from f (max n (f x)) xs)
  highest-above f n (x ∷ xs) (suc k) d lt = highest-above f (max n (f x)) xs k d (omega arith)

  later : (P : X → Type 0) (x : X) (xs : List X) → Any P xs → Any P (x ∷ xs)
  later P x xs (k, y, lt, at, is) = (suc k, y, omega arith, at, is)

  pub highest-reached : (f : X → ℕ) (n : ℕ) (xs : List X) → (highest f n xs ≡ n) ⊎ Any (λ x. f x ≡ highest f n xs) xs
  unfolding highest
  highest-reached f n [] = inl refl
  highest-reached f n (x ∷ xs) = elim (highest-reached f (max n (f x)) xs) [
    | inl e ↦ elim (cases_lt n (f x)) [
      | inl lt ↦ inr (0, x, omega arith, refl, omega (arith, e))
      | inr ge ↦ inl (omega (arith, e))
    ]
    | inr any ↦ inr (later (λ y. f y ≡ highest f (max n (f x)) xs) x xs any)
  ]

  -- no item passes a test that finds none
  pub none_any : (p : X → Bool) (xs : List X) → list_any p xs ≡ false → All (λ x. p x ≡ false) xs
  none_any p xs none k d lt = elim (cases_Bool (p (get_or xs k d))) [
    | inl is ↦ absurd (false≢true (sym none
        ∙ list_any-from_Any p xs (k, get_or xs k d, lt, get_or_default xs k (get_or xs k d) d lt, is)))
    | inr not ↦ not
  ]

  -- an item is as high as a number exactly where the highest is
  pub any_highest : (f : X → ℕ) (n b : ℕ) (xs : List X)
      → nat_le n (highest f b xs) ≡ (nat_le n b || list_any (λ x. nat_le n (f x)) xs)
  unfolding highest
  any_highest f n b [] = or_false (nat_le n b)
    where
      or_false : (t : Bool) → t ≡ (t || false)
      or_false true = refl
      or_false false = refl
  any_highest f n b (x ∷ xs) =
      any_highest f n (max b (f x)) xs
      ∙ ap (λ t. t || list_any (λ y. nat_le n (f y)) xs) (le_max n b (f x))
      ∙ or_assoc (nat_le n b) (nat_le n (f x)) (list_any (λ y. nat_le n (f y)) xs)

  pub same_any : (p q : X → Bool) (xs : List X) → ((x : X) → p x ≡ q x) → list_any p xs ≡ list_any q xs
  same_any p q [] same = refl
  same_any p q (x ∷ xs) same = λ i. same x i || same_any p q xs same i
