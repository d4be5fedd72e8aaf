-- Updates that two tests let through, in either order.
use Rattle.std.proofs.Common.{◌≡◌, ℕ, ◌==◌, Bool, true, false, cond, List, [], ◌∷◌, filter, refl, ap, sym, ◌∙◌, inl, inr}
use Rattle.std.proofs.lemmas.Bool.{cases_Bool}
use Rattle.la_set.specs.declared.update.Update.{Update}
use Rattle.la_object.specs.Objects.{of_object, without_marks_and_votes, is_of_some_kind}

filter-kept : {X : Type 0} (p : X → Bool) (x : X) (xs : List X) → p x ≡ true → filter p (x ∷ xs) ≡ x ∷ filter p xs
filter-kept p x xs is = ap (λ b. cond b (x ∷ filter p xs) (filter p xs)) is

filter-dropped : {X : Type 0} (p : X → Bool) (x : X) (xs : List X) → p x ≡ false → filter p (x ∷ xs) ≡ filter p xs
filter-dropped p x xs not = ap (λ b. cond b (x ∷ filter p xs) (filter p xs)) not

filter-swap : {X : Type 0} (p q : X → Bool) (xs : List X) → filter p (filter q xs) ≡ filter q (filter p xs)
filter-swap p q [] = refl
filter-swap p q (x ∷ xs) = elim (cases_Bool (p x)) [
  | inl kept ↦ elim (cases_Bool (q x)) [
    | inl too ↦ ap (filter p) (filter-kept q x xs too) ∙ filter-kept p x (filter q xs) kept ∙ ap (λ ys. x ∷ ys) (filter-swap p q xs)
        ∙ sym (filter-kept q x (filter p xs) too) ∙ ap (filter q) (sym (filter-kept p x xs kept))
    | inr not ↦ ap (filter p) (filter-dropped q x xs not) ∙ filter-swap p q xs
        ∙ sym (filter-dropped q x (filter p xs) not) ∙ ap (filter q) (sym (filter-kept p x xs kept))
  ]
  | inr not ↦ elim (cases_Bool (q x)) [
    | inl kept ↦ ap (filter p) (filter-kept q x xs kept) ∙ filter-dropped p x (filter q xs) not ∙ filter-swap p q xs
        ∙ ap (filter q) (sym (filter-dropped p x xs not))
    | inr too ↦ ap (filter p) (filter-dropped q x xs too) ∙ filter-swap p q xs ∙ ap (filter q) (sym (filter-dropped p x xs not))
  ]
]

-- an object's updates without Marks and Votes, taken from all or from those without
pub of_object-without : (number : ℕ) (us : List Update)
    → of_object number (without_marks_and_votes us) ≡ without_marks_and_votes (of_object number us)
of_object-without number us = filter-swap (λ u. u.object == number) (λ u. is_of_some_kind u.op) us
