-- Lists that are looked at one by one.
use Rattle.std.proofs.Common.{◌≡◌, ◌&&◌, ◌+◌, ℕ, Bool, true, false, List, ◌∷◌, take, filter, fold, Some, refl, sym, ap}
use Rattle.std.proofs.Common.{◌∙◌, slice_get, get_or}
use Rattle.std.specs.List.{list_all}
use Rattle.std.proofs.lemmas.List.Folds.{list_all_more}
use Rattle.std.proofs.lemmas.List.Sums.{fold_more}
use Rattle.std.proofs.lemmas.Option.{slice_get_within, get_or_from_slice_get}
use Rattle.la_set.specs.declared.update.Update.{Update}

-- one update more is looked at
pub one_looked_at : (p : Update → Bool) (us : List Update) (k : ℕ) (u : Update) (before : Bool)
    → slice_get us k ≡ Some u
    → before ≡ list_all p (take k us) → (before && p u) ≡ list_all p (take (k + 1) us)
one_looked_at p us k u before at is =
    sym (list_all_more p us k u (slice_get_within us k u at)
    ∙ ap (λ b. b && p (get_or us k u)) (sym is) ∙ ap (λ v. before && p v) (get_or_from_slice_get us k u u at))

-- one more is folded
pub one_folded : {X Y : Type 0} (f : Y → X → Y) (a : Y) (xs : List X) (k : ℕ) (x : X) → slice_get xs k ≡ Some x
    → fold f a (take (k + 1) xs) ≡ f (fold f a (take k xs)) x
one_folded f a xs k x at =
    fold_more f a xs k x (slice_get_within xs k x at)
    ∙ ap (f (fold f a (take k xs))) (get_or_from_slice_get xs k x x at)

-- what a filter keeps of one more
pub filter_keeps : {X : Type 0} (p : X → Bool) (x : X) (xs : List X) → p x ≡ true
    → filter p (x ∷ xs) ≡ x ∷ filter p xs
filter_keeps p x xs keeps = rw keeps refl

pub filter_drops : {X : Type 0} (p : X → Bool) (x : X) (xs : List X) → p x ≡ false
    → filter p (x ∷ xs) ≡ filter p xs
filter_drops p x xs drops = rw drops refl
