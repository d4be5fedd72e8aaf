-- Of an object that takes no more: from the rows of a run to the shelf and its set.
use Rattle.std.proofs.Common.{◌≡◌, ℕ, zero, suc, ◌+◌, List, [], ◌∷◌, take, drop, Some, refl, ap, sym, ◌∙◌, subst, arith}
use Rattle.std.specs.List.{All, slice_get}
use Rattle.std.specs.Prelude.{Result, Ok, Err, IfErr}
use Rattle.std.proofs.lemmas.Option.{same_Some, none-some}
use Rattle.std.proofs.lemmas.List.Elements.{All-head, All-tail}
use Rattle.la_set.specs.declared.update.Update.{Update}
use Rattle.la_set.specs.Histories.{Histories}
use Rattle.la_shelf.specs.declared.error.Refusal.{Refusal}
use Rattle.la_shelf.specs.declared.error.Refusal.TheVariants.{Memory, Full}
use Rattle.la_shelf.specs.Meanings.{Meaning}
use Rattle.la_shelf.specs.Shelves.{ShelfState, kinds, state_by, IsObject}
use Rattle.la_shelf.specs.Refusals.{IfFull, IsFullFor, IsFullNext, HasFullNext}

-- of a refusal, by what is known of it
pub if_full : (why : Refusal) (P Q : Type 0) → (P → Q) → IfFull why P → IfFull why Q
if_full Memory P Q to is = tt
if_full Full P Q to is = to is

pub err_full : {A : Type 0} (r : Result A Refusal) (P Q : Type 0) → (P → Q) → IfErr r (λ why. IfFull why P)
    → IfErr r (λ why. IfFull why Q)
err_full (Ok a) P Q to is = tt
err_full (Err why) P Q to is = if_full why P Q to is

-- an item of a list, of its front and of what is behind one
at_take : {X : Type 0} (xs : List X) (n : ℕ) → slice_get (take (suc n) xs) n ≡ slice_get xs n
at_take [] n = refl
at_take (x ∷ xs) zero = refl
at_take (x ∷ xs) (suc n) = at_take xs n

pub at_front : {X : Type 0} (xs ys : List X) (n : ℕ) → take (suc n) xs ≡ take (suc n) ys → slice_get xs n
    ≡ slice_get ys n
at_front xs ys n same = sym (at_take xs n) ∙ ap (λ zs. slice_get zs n) same ∙ at_take ys n

pub at_drop : {X : Type 0} (k n : ℕ) (xs : List X) → slice_get (drop k xs) n ≡ slice_get xs (k + n)
at_drop zero n xs = ap (λ i. slice_get xs i) {x = n} {y = 0 + n} (omega arith)
at_drop (suc k) n [] = refl
at_drop (suc k) n (x ∷ xs) =
    at_drop k n xs ∙ ap (λ i. slice_get (x ∷ xs) i) {x = suc (k + n)} {y = suc k + n} (omega arith)

module _ {K S Q A : Type 0} (m : Meaning K S Q A) (full : S → Update → Type 0) where
  -- a row at a place, as an object of the shelf
  placed : (view : Histories) (ss : List (ℕ × S)) (i k : ℕ) (s : S) → All (IsObject m view) ss
      → slice_get ss i ≡ Some (k, s)
      → (slice_get (kinds m ss) i ≡ Some (k, m.kind_of s)) × (s ≡ state_by m view k (m.kind_of s))
  placed view [] i k s all e = absurd (none-some (k, s) e)
  placed view (p ∷ ss) zero k s all e =
      let is : p ≡ (k, s) = same_Some _ _ e in (
        ap (λ (q : ℕ × S). Some (q.0, m.kind_of q.1)) is,
        subst (IsObject m view) is (All-head (IsObject m view) p ss all),
      )
  placed view (p ∷ ss) (suc i) k s all e = placed view ss i k s (All-tail (IsObject m view) p ss all) e

  pub full_on_shelf : (view : Histories) (ss : List (ℕ × S)) (us : List Update) (n : ℕ) → All (IsObject m view) ss
      → IsFullNext full ss us n → HasFullNext m full (record { view = view; objects = kinds m ss }) us n
  full_on_shelf view ss us n all (u, here, next) = row u here next
    where
      row : (u : Update) → slice_get us n ≡ Some u → IsFullFor full ss u
          → HasFullNext m full (record { view = view; objects = kinds m ss }) us n
      row u here (i, s, at, is) =
          let is_placed = placed view ss i u.object s all at in
          (u, i, m.kind_of s, here, is_placed.0, subst (λ t. full t u) is_placed.1 is)

  pub full_of_others : (shelf : ShelfState K) (us vs : List Update) (n k : ℕ) → slice_get us n ≡ slice_get vs k
      → HasFullNext m full shelf us n → HasFullNext m full shelf vs k
  full_of_others shelf us vs n k same (u, i, kind, here, at, is) = (u, i, kind, sym same ∙ here, at, is)
