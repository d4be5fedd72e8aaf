-- What stands at a place of a list.
use Rattle.std.proofs.Common.{◌≡◌, ◌⊎◌, inl, inr, ℕ, zero, suc, ◌<◌, List, [], ◌∷◌, length, slice_get, slice_set, Some, refl, ap, arith}
use Rattle.std.proofs.lemmas.Option.{none-some, same_Some}

-- the item at a place within a list
pub exists : {A : Type 0} (xs : List A) (i : ℕ) → i < length xs → (x : A) × (slice_get xs i ≡ Some x)
exists [] i lt = absurd (omega (arith, lt))
exists (x ∷ xs) zero lt = (x, refl)
exists (x ∷ xs) (suc i) lt = exists xs i (omega (arith, lt))

-- what is found in a list in which one thing was put
pub get_set : {A : Type 0} (xs : List A) (k q : ℕ) (y z : A) → slice_get (slice_set xs k y) q ≡ Some z
    → ((q ≡ k) × (y ≡ z)) ⊎ (slice_get xs q ≡ Some z)
get_set [] k q y z e = inr e
get_set (x ∷ xs) zero zero y z e = inl (refl, same_Some y z e)
get_set (x ∷ xs) zero (suc q) y z e = inr e
get_set (x ∷ xs) (suc k) zero y z e = inr e
get_set (x ∷ xs) (suc k) (suc q) y z e = elim (get_set xs k q y z e) [ inl p ↦ inl (ap suc p.0, p.1) | inr p ↦ inr p ]

pub get_put : {A : Type 0} (xs : List A) (k : ℕ) (x y : A) → slice_get xs k ≡ Some x
    → slice_get (slice_set xs k y) k ≡ Some y
get_put [] k x y e = absurd (none-some x e)
get_put (z ∷ xs) zero x y e = refl
get_put (z ∷ xs) (suc k) x y e = get_put xs k x y e
