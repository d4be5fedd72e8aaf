-- Two lists, looked through from the end.
use Rattle.std.proofs.Common.{◌≡◌, ◌≢◌, ℕ, zero, suc, ◌+◌, ◌<◌, ◌≤◌, min, Bool, true, false, not, List, [], ◌∷◌, ◌++◌, length, take, drop, get_or, Option, Some, None, refl, sym, ◌∙◌, ap, subst, append-nil, arith, inl, inr}
use Rattle.std.specs.Prelude.{MatchOption, IsSomeAnd}
use Rattle.std.specs.List.{slice_get}
use Rattle.std.specs.Option.{is_some}
use Rattle.std.proofs.lemmas.List.{same_from_push, take_more, take-append-drop, drop_all, length-take}
use Rattle.std.proofs.lemmas.Option.{slice_get_within, slice_get-get_or, same_Some, none-some}
use Rattle.std.proofs.lemmas.Bool.{cases_eq, cases_lt, false≢true, true≢false}
use Rattle.std.specs.Global.{Global}
use Rattle.std.specs.declared.sync.Arc.{Arc}
use Rattle.la_set.specs.Agreement.{AgreeBelow, IsFirstDifference, StartsWith}

-- one more than the items of a link, where it leads to some
abbrev pub steps_left : {T : Type 0} → Option (Arc (List T) Global) → ℕ
steps_left None = 0
steps_left (Some a) = suc (length a.value)

-- the lists have no two items at a place
abbrev pub AgreeAt : {T : Type 0} → List T → List T → ℕ → Type 0
AgreeAt {T} xs ys k = (x y : T) → slice_get xs k ≡ Some x → slice_get ys k ≡ Some y → x ≡ y

-- they have, and these differ
abbrev pub DifferAt : {T : Type 0} → List T → List T → ℕ → Type 0
DifferAt xs ys k = IsSomeAnd (slice_get xs k) (λ x. IsSomeAnd (slice_get ys k) (λ y. x ≢ y))

-- what was found from a place on
abbrev pub FoundFrom : {T : Type 0} → List T → List T → ℕ → Option ℕ → Type 0
FoundFrom xs ys left None = (k : ℕ) → left ≤ k → AgreeAt xs ys k
FoundFrom xs ys left (Some p) = DifferAt xs ys p × ((k : ℕ) → left ≤ k → k < p → AgreeAt xs ys k)

module _ {T : Type 0} (xs ys : List T) where
  pub found_none : FoundFrom xs ys (min (length xs) (length ys)) None
  found_none k le x y in_xs in_ys = absurd (omega (arith, slice_get_within xs k x in_xs, slice_get_within ys k y in_ys))

  agree_at : (k : ℕ) (x y : T) → slice_get xs k ≡ Some x → slice_get ys k ≡ Some y → x ≡ y → AgreeAt xs ys k
  agree_at k x y at_xs at_ys e u v in_xs in_ys =
      same_Some u x (sym in_xs ∙ at_xs) ∙ e ∙ same_Some y v (sym at_ys ∙ in_ys)

  agree_from : (k n j : ℕ) (x y : T) → n ≡ k + 1 → slice_get xs k ≡ Some x → slice_get ys k ≡ Some y → x ≡ y → k ≤ j
      → (n ≤ j → AgreeAt xs ys j) → AgreeAt xs ys j
  agree_from k n j x y is at_xs at_ys e le h = elim (cases_eq j k) [
    | inl here ↦ subst (AgreeAt xs ys) (sym here) (agree_at k x y at_xs at_ys e)
    | inr not ↦ h (omega arith)
  ]

  pub found_same : (k n : ℕ) (found : Option ℕ) (x y : T) → n ≡ k + 1 → slice_get xs k ≡ Some x
      → slice_get ys k ≡ Some y → x ≡ y → FoundFrom xs ys n found → FoundFrom xs ys k found
  found_same k n None x y is at_xs at_ys e h = λ j le. agree_from k n j x y is at_xs at_ys e le (h j)
  found_same k n (Some p) x y is at_xs at_ys e h =
      (h.0, λ j le lt. agree_from k n j x y is at_xs at_ys e le (λ more. h.1 j more lt))

  pub found_different : (k : ℕ) (x y : T) → slice_get xs k ≡ Some x → slice_get ys k ≡ Some y → x ≢ y
      → FoundFrom xs ys k (Some k)
  found_different k x y at_xs at_ys ne = (rw (at_xs, at_ys) ne, λ j le lt. absurd (omega arith))

  below_or_found : (known left k : ℕ) → AgreeBelow xs ys known → left ≤ known → (left ≤ k → AgreeAt xs ys k)
      → AgreeAt xs ys k
  below_or_found known left k below le h = elim (cases_lt k known) [
    | inl less ↦ λ x y. below k x y less
    | inr more ↦ h (omega arith)
  ]

  pub found_all : (known left : ℕ) (found : Option ℕ) → AgreeBelow xs ys known → left ≤ known
      → FoundFrom xs ys left found
      → MatchOption found ((n : ℕ) → AgreeBelow xs ys n) (λ place. IsFirstDifference xs ys place)
  found_all known left None below le h = λ n k x y lt. below_or_found known left k below le (h k) x y
  found_all known left (Some p) below le h = record {
    differs = h.0;
    agree = λ k x y lt. below_or_found known left k below le (λ more. h.1 k more lt) x y;
  }

-- the last of so many items, and those before it
pub last_is : {T : Type 0} (zs before : List T) (k n : ℕ) (x : T) → n ≡ k + 1 → k < length zs
    → take n zs ≡ before ++ x ∷ [] → (before ≡ take k zs) × (slice_get zs k ≡ Some x)
last_is zs before k n x is lt e =
    let p =
    same_from_push before (take k zs) x (get_or zs k x) (sym e ∙ ap (λ m. take m zs) is ∙ take_more zs k x lt) in
    (p.0, slice_get-get_or zs k x lt ∙ ap Some (sym p.1))

-- ## Lists that begin with others

-- of two lists that agree where both reach the shorter is the beginning of the longer
agree_front : {T : Type 0} (xs ys : List T)
    → ((k : ℕ) (x y : T) → k < length ys → slice_get xs k ≡ Some x → slice_get ys k ≡ Some y → x ≡ y)
    → length ys ≤ length xs → ys ≡ take (length ys) xs
agree_front xs [] agree le = refl
agree_front [] (y ∷ ys) agree le = absurd (omega arith)
agree_front (x ∷ xs) (y ∷ ys) agree le =
    ap (λ z. z ∷ ys) (sym (agree 0 x y (omega arith) refl refl))
    ∙ ap (λ zs. x ∷ zs) (agree_front xs ys (λ k u v lt. agree (suc k) u v (omega arith)) (omega arith))

reads_front : {T : Type 0} (n : ℕ) (xs : List T) (k : ℕ) (x : T) → slice_get (take n xs) k ≡ Some x
    → slice_get xs k ≡ Some x
reads_front zero xs k x e = absurd (none-some x e)
reads_front (suc n) [] k x e = absurd (none-some x e)
reads_front (suc n) (y ∷ xs) zero x e = e
reads_front (suc n) (y ∷ xs) (suc k) x e = reads_front n xs k x e

pub longer_is : {T : Type 0} (xs ys : List T) → AgreeBelow xs ys (length xs) → length xs ≤ length ys
    → ys ≡ xs ++ drop (length xs) ys
longer_is xs ys agree le =
    let front = agree_front ys xs (λ k y x lt in_ys in_xs. sym (agree k x y lt in_xs in_ys)) le in
    sym (ap (λ zs. zs ++ drop (length xs) ys) front ∙ take-append-drop (length xs) ys)

pub shorter_is : {T : Type 0} (xs ys : List T) → length ys ≤ length xs → xs ≡ xs ++ drop (length xs) ys
shorter_is xs ys le = sym (ap (λ zs. xs ++ zs) (drop_all (length xs) ys le) ∙ append-nil xs)

module _ {T : Type 0} (xs ys : List T) where
  apart : (p : ℕ) (o q : Option T) → slice_get xs p ≡ o → slice_get ys p ≡ q
      → IsSomeAnd o (λ x. IsSomeAnd q (λ y. x ≢ y)) → StartsWith xs ys → ⊥
  apart p None q a b d s = d
  apart p (Some x) None a b d s = d
  apart p (Some x) (Some y) a b d s =
      d (same_Some x y (sym a ∙ reads_front (length ys) xs p y (ap (λ zs. slice_get zs p) (sym s) ∙ b)))

  pub begins-Decides : (o : Option ℕ) (r : Bool) → is_some o ≡ not r → length ys ≤ length xs
      → MatchOption o ((n : ℕ) → AgreeBelow xs ys n) (λ p. IsFirstDifference xs ys p)
      → (r ≡ true → StartsWith xs ys) × (StartsWith xs ys → r ≡ true)
  begins-Decides None true e le h = ((λ t. agree_front xs ys (λ k x y lt. h (length ys) k x y lt) le), λ s. refl)
  begins-Decides None false e le h = absurd (false≢true e)
  begins-Decides (Some p) true e le h = absurd (true≢false e)
  begins-Decides (Some p) false e le h =
      ((λ t. absurd (false≢true t)), λ s. absurd (apart p (slice_get xs p) (slice_get ys p) refl refl h.differs s))

  pub too_long : length xs < length ys → StartsWith xs ys → ⊥
  too_long lt s = omega (arith, ap length s, length-take (length ys) xs)
