-- Shelves that have absorbed nothing.
use Rattle.std.proofs.Common.{◌≡◌, inl, inr, ℕ, ◌+◌, ◌<◌, List, length, get_or, Some, ap, sym, ◌∙◌, subst, arith}
use Rattle.std.specs.List.{AllWithin}
use Rattle.std.proofs.lemmas.Bool.{cases_lt}
use Rattle.std.proofs.lemmas.Option.{get_or_from_slice_get, slice_get-get_or}
use Rattle.la_set.specs.Histories.{empty}
use Rattle.la_object.specs.Shelves.{ShelfState}

-- of the shelves so far, and one more
pub unused_more : (shelves : List ShelfState) (i : ℕ) (s : ShelfState)
    → AllWithin (λ (z : ShelfState). z.view ≡ empty) shelves 0 i → i < length shelves → s ≡ get_or shelves i s
    → s.view ≡ empty → AllWithin (λ (z : ShelfState). z.view ≡ empty) shelves 0 (i + 1)
unused_more shelves i s so_far lt at unused k d le more = elim (cases_lt k i) [
  | inl before ↦ so_far k d le before
  | inr after ↦
      let here : i ≡ k = omega (arith, more) in
      let same : get_or shelves i d ≡ s = get_or_from_slice_get shelves i s d (slice_get-get_or shelves i s lt ∙ ap Some (sym at)) in
      subst (λ j. (get_or shelves j d).view ≡ empty) here (ap (λ (z : ShelfState). z.view) same ∙ unused)
]
