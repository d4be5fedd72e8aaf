-- What a function gives of a list's items, item after item.
use Rattle.std.proofs.Common.{◌≡◌, ℕ, zero, suc, List, [], ◌∷◌, ◌++◌, take, drop, Contains, Option, Some, None, refl, ap, sym, ◌∙◌, inl, inr}
use Rattle.std.specs.Prelude.{option_and_then}
use Rattle.std.specs.List.{filter_map, cons_option, slice_get}
use Rattle.std.proofs.lemmas.Option.{none-some}
use Rattle.la_set.proofs.lemmas.Filters.{Contains-none, Contains-first, Contains-later, Contains-cons_cases}

cons_option-append : {Y : Type 0} (o : Option Y) (ys zs : List Y) → cons_option o ys ++ zs ≡ cons_option o (ys ++ zs)
cons_option-append None ys zs = refl
cons_option-append (Some y) ys zs = refl

pub filter_map-skip : {X Y : Type 0} (f : X → Option Y) (xs : List X) (i : ℕ)
    → option_and_then f (slice_get xs i) ≡ None → filter_map f (take (suc i) xs) ≡ filter_map f (take i xs)
filter_map-skip f [] zero e = refl
filter_map-skip f [] (suc k) e = refl
filter_map-skip f (x ∷ xs) zero e = rw e refl
filter_map-skip f (x ∷ xs) (suc k) e = ap (cons_option (f x)) (filter_map-skip f xs k e)

pub filter_map-more : {X Y : Type 0} (f : X → Option Y) (xs : List X) (i : ℕ) (y : Y)
    → option_and_then f (slice_get xs i) ≡ Some y → filter_map f (take (suc i) xs) ≡ filter_map f (take i xs) ++ y ∷ []
filter_map-more f [] i y e = absurd (none-some y e)
filter_map-more f (x ∷ xs) zero y e = rw e refl
filter_map-more f (x ∷ xs) (suc k) y e =
    ap (cons_option (f x)) (filter_map-more f xs k y e)
    ∙ sym (cons_option-append (f x) (filter_map f (take k xs)) (y ∷ []))

pub filter_map-at : {X Y : Type 0} (f : X → Option Y) (xs : List X) (i : ℕ) (y : Y)
    → option_and_then f (slice_get xs i) ≡ Some y
    → filter_map f xs ≡ filter_map f (take i xs) ++ (y ∷ filter_map f (drop (suc i) xs))
filter_map-at f [] i y e = absurd (none-some y e)
filter_map-at f (x ∷ xs) zero y e = rw e refl
filter_map-at f (x ∷ xs) (suc k) y e =
    ap (cons_option (f x)) (filter_map-at f xs k y e)
    ∙ sym (cons_option-append (f x) (filter_map f (take k xs)) (y ∷ filter_map f (drop (suc k) xs)))

-- ## Members

-- one of the items gives it
pub record IsGivenBy {X Y : Type 0} (f : X → Option Y) (xs : List X) (y : Y) : Type 0 where
  pub item : X
  pub member : Contains xs item
  pub gives : f item ≡ Some y

given_later : {X Y : Type 0} (f : X → Option Y) (x : X) (xs : List X) (y : Y) → IsGivenBy f xs y
    → IsGivenBy f (x ∷ xs) y
given_later f x xs y by = record { item = by.item; member = Contains-later x xs by.item by.member; gives = by.gives }

given_by : {X Y : Type 0} (f : X → Option Y) (x : X) (xs : List X) (y : Y) (o : Option Y) → f x ≡ o
    → (Contains (filter_map f xs) y → IsGivenBy f xs y) → Contains (cons_option o (filter_map f xs)) y
    → IsGivenBy f (x ∷ xs) y
given_by f x xs y None e later has = given_later f x xs y (later has)
given_by f x xs y (Some z) e later has = elim (Contains-cons_cases z (filter_map f xs) y has) [
  | inl here ↦ record { item = x; member = Contains-first x xs; gives = e ∙ ap Some here }
  | inr there ↦ given_later f x xs y (later there)
]

pub filter_map-contains : {X Y : Type 0} (f : X → Option Y) (xs : List X) (y : Y) → Contains (filter_map f xs) y
    → IsGivenBy f xs y
filter_map-contains f [] y has = absurd (Contains-none y has)
filter_map-contains f (x ∷ xs) y has = given_by f x xs y (f x) refl (filter_map-contains f xs y) has

pub contains-filter_map : {X Y : Type 0} (f : X → Option Y) (xs : List X) (x : X) (y : Y) → Contains xs x → f x ≡ Some y
    → Contains (filter_map f xs) y
contains-filter_map f [] x y has e = absurd (Contains-none x has)
contains-filter_map {X} {Y} f (z ∷ zs) x y has e = elim (Contains-cons_cases z zs x has) [
  | inl here ↦ rw (ap f here ∙ e) (Contains-first y (filter_map f zs))
  | inr there ↦ behind (f z) (contains-filter_map f zs x y there e)
] where
  behind : (o : Option Y) → Contains (filter_map f zs) y → Contains (cons_option o (filter_map f zs)) y
  behind None has = has
  behind (Some w) has = Contains-later w (filter_map f zs) y has
