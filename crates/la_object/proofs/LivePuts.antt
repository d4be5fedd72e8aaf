-- An observed-remove set has an element exactly where one of its updates is a live Put of it.
use Rattle.std.proofs.Common.{◌≡◌, ℕ, Bool, true, false, cond, ◌||◌, List, [], ◌∷◌, Contains, Option, Some, None, is_some, refl, ap, sym, ◌∙◌, subst, inl, inr}
use Rattle.std.specs.List.{list_any, filter_map, cons_option}
use Rattle.std.specs.Ordering.{nat_cmp, eq_by_cmp}
use Rattle.std.specs.Cmp.{unsigned_tied, nat_eq_equiv}
use Rattle.std.specs.FinMap as map
use Rattle.la_set.specs.declared.update.Update.{Update}
use Rattle.la_set.proofs.lemmas.Filters.{Contains-none, Contains-cons_cases}
use Rattle.la_object.specs.OrSet.{live, present, is_element}
use Rattle.la_object.proofs.Presence.{get-element_set}

found : {X : Type 0} (p : X → Bool) (xs : List X) (x : X) → Contains xs x → p x ≡ true → list_any p xs ≡ true
found p [] x has passes = absurd (Contains-none x has)
found p (y ∷ ys) x has passes = elim (Contains-cons_cases y ys x has) [
  | inl here ↦ ap (λ b. b || list_any p ys) (subst (λ z. p z ≡ true) (sym here) passes)
  | inr later ↦ ap (λ b. p y || b) (found p ys x later passes) ∙ or_true (p y)
]
  where
    or_true : (b : Bool) → (b || true) ≡ true
    or_true true = refl
    or_true false = refl

module _ {X : Type 0} (read : X → Option ℕ) (x : ℕ) where
  any-read : (us : List X)
      → list_any (eq_by_cmp nat_cmp x) (filter_map read us) ≡ list_any (λ u. is_element x (read u)) us
  any-read [] = refl
  any-read (u ∷ us) = by (read u) (any-read us)
    where
      by : (o : Option ℕ)
          → list_any (eq_by_cmp nat_cmp x) (filter_map read us) ≡ list_any (λ v. is_element x (read v)) us
          → list_any (eq_by_cmp nat_cmp x) (cons_option o (filter_map read us))
          ≡ (is_element x o || list_any (λ v. is_element x (read v)) us)
      by None rest = rest
      by (Some y) rest = λ i. (unsigned_tied x y ∙ nat_eq_equiv.symm x y) i || rest i

present-live : (us : List Update) (x : ℕ)
    → map.contains_key (present us) x ≡ list_any (λ u. is_element x (live us u)) us
present-live us x =
    ap is_some (get-element_set (filter_map (live us) us) x) ∙ is_some-marked _ ∙ any-read (live us) x us
  where
    is_some-marked : (b : Bool) → is_some (cond b (Some (tt {0})) None) ≡ b
    is_some-marked true = refl
    is_some-marked false = refl

-- a live Put is enough
pub put-present : (us : List Update) (u : Update) (x : ℕ) → Contains us u → live us u ≡ Some x
    → map.contains_key (present us) x ≡ true
put-present us u x has is =
    present-live us x ∙ found (λ v. is_element x (live us v)) us u has (ap (is_element x) is ∙ nat_eq_equiv.refl x)
