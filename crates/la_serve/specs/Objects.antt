-- The objects of a node's shelf, as the option `--objects` says them.
use Rattle.std.specs.Prelude.{◌≡◌, ◌⊎◌, ℕ, ◌<◌, Bool, true, List, [], ◌∷◌, ◌++◌, length, Option, Some, None}
use Rattle.std.specs.Prelude.{option_map, codes, nat_le}
use Rattle.std.specs.Prelude.{◌==◌, ◌&&◌}
use Rattle.std.specs.Prelude.{if◌then◌else◌}
use Rattle.std.specs.List.{slice_split, before_first, after_first}
use Rattle.std.specs.Option.{IsSome, is_none, option_and_then}
use Rattle.std.specs.Str.{bytes_eq}
use Rattle.la_object.specs.declared.kind.Kind.{Kind}
use Rattle.la_object.specs.declared.kind.Kind.TheVariants.{Counter, MaxRegister, OrSet}
use Rattle.la_object.specs.Shelves.{kind_at}
use Rattle.la_serve.specs.declared.unfit.UnfitObjects.{UnfitObjects}
use Rattle.la_serve.specs.declared.unfit.UnfitObjects.TheVariants.{NoNumber, NoKind, Twice, TooMany}
use Rattle.la_script.specs.Numbers.{u16_max, number}
use Rattle.la_script.specs.Words.{each_word}

-- no two of them have one number
abbrev pub have_own_numbers : List (ℕ × Kind) → Bool
have_own_numbers [] = true
have_own_numbers (o ∷ os) = is_none (kind_at os o.0) && have_own_numbers os

-- a shelf may have them: no two under one number, and 64 at the most
abbrev pub are_for_a_shelf : List (ℕ × Kind) → Bool
are_for_a_shelf os = nat_le (length os) 64 && have_own_numbers os

-- the kind that a word names
abbrev pub kind_named : List ℕ → Option Kind
kind_named word =
    if bytes_eq word (codes "counter") then Some Counter
    else if bytes_eq word (codes "max") then Some MaxRegister
    else if bytes_eq word (codes "set") then Some OrSet
    else None

-- what a part says: a number of 16 bits, `=` and the name of a kind
abbrev pub object_in : (part : List ℕ) → Option (ℕ × Kind)
object_in part =
    option_and_then
    (λ n. option_map (λ kind. (n, kind)) (kind_named (after_first (λ b. b == 61) part)))
    (number 0 u16_max (before_first (λ b. b == 61) part))

-- a text in parts with `,` between them, of which each says one, where a shelf may have them all
abbrev pub objects_in : (text : List ℕ) → Option (List (ℕ × Kind))
objects_in text =
    option_and_then
    (λ os. if are_for_a_shelf os then Some os else None)
    (each_word object_in (slice_split (λ b. b == 44) text))

-- ## What does not fit

-- a part that says no object: first is looked at its number, then at its kind
abbrev pub IsNoObject : (part : List ℕ) → UnfitObjects → Type 0
IsNoObject part (NoNumber text) =
    (text.now ≡ before_first (λ b. b == 61) part) × (number 0 u16_max text.now ≡ None)
IsNoObject part (NoKind text) =
    IsSome (number 0 u16_max (before_first (λ b. b == 61) part))
    × (text.now ≡ after_first (λ b. b == 61) part) × (kind_named text.now ≡ None)
IsNoObject part (Twice n) = ⊥
IsNoObject part TooMany = ⊥

-- an object with this number that a shelf with these may not have too: first is looked at how many there are
abbrev pub IsUnfitObject : (os : List (ℕ × Kind)) → (new : ℕ) → UnfitObjects → Type 0
IsUnfitObject os new (NoNumber text) = ⊥
IsUnfitObject os new (NoKind text) = ⊥
IsUnfitObject os new (Twice n) = (n ≡ new) × (length os < 64) × IsSome (kind_at os n)
IsUnfitObject os new TooMany = length os ≡ 64

-- one of both
abbrev pub IsUnfitPart : (os : List (ℕ × Kind)) → (part : List ℕ) → UnfitObjects → Type 0
IsUnfitPart os part why =
    IsNoObject part why ⊎ ((o : ℕ × Kind) × (object_in part ≡ Some o) × IsUnfitObject os o.0 why)

-- the first part of a text that does not fit: those before it say objects for a shelf
pub record IsFirstUnfit (text : List ℕ) (why : UnfitObjects) : Type 0 where
  pub before : List (List ℕ)
  pub part : List ℕ
  pub behind : List (List ℕ)
  pub parts : slice_split (λ b. b == 44) text ≡ before ++ part ∷ behind
  pub objects : List (ℕ × Kind)
  pub said : each_word object_in before ≡ Some objects
  pub fit : are_for_a_shelf objects ≡ true
  pub unfit : IsUnfitPart objects part why
