-- What was put under the ids of one replica, by their numbers.
use Rattle.std.specs.Prelude.{◌≡◌, ℕ, ◌<◌, ◌≤◌, ◌==◌, Bool, true, false, List, [], ◌∷◌, length, if◌then◌else◌, slice_index_or, Option, Some, None}
use Rattle.la_orset.specs.declared.rows.Row.{Row}

-- what was put, and whether a Remove named the id of its Put
pub record KnownRow : Type 0 where
  pub element : ℕ
  pub gone : Bool

abbrev pub known_row : Row → KnownRow
known_row row = record { element = row.element; gone = row.gone }

-- what was put under a number
abbrev pub at_number : List Row → ℕ → Option KnownRow
at_number [] n = None
at_number (row ∷ rows) n = if n == row.number then Some (known_row row) else at_number rows n

abbrev pub no_row : Row
no_row = record { number = 0; gone = false; element = 0 }

abbrev pub number_at : List Row → ℕ → ℕ
number_at rows i = let row = slice_index_or rows i no_row in row.number

-- the numbers rise, so that none comes twice
abbrev pub IsAscending : List Row → Type 0
IsAscending rows = (i j : ℕ) → i < j → j < length rows → number_at rows i < number_at rows j

-- the row at a place has the number
pub record IsAt (rows : List Row) (n i : ℕ) : Type 0 where
  pub in_range : i < length rows
  pub has_number : number_at rows i ≡ n

-- no row has the number, which belongs at this place
pub record IsGapFor (rows : List Row) (n i : ℕ) : Type 0 where
  pub in_range : i ≤ length rows
  pub lower_before : (j : ℕ) → j < i → number_at rows j < n
  pub higher_after : (j : ℕ) → i ≤ j → j < length rows → n < number_at rows j

-- under this number there is what is given, and under all others what was there
abbrev pub IsPut : List Row → ℕ → Option KnownRow → List Row → Type 0
IsPut old n given new = (q : ℕ) → at_number new q ≡ (if n == q then given else at_number old q)

-- the same, where a Remove names the id
abbrev pub named_known : Option KnownRow → Option KnownRow
named_known None = None
named_known (Some k) = Some (record { element = k.element; gone = true })

-- what was put, where no Remove named its id
abbrev pub live_element : Option KnownRow → Option ℕ
live_element None = None
live_element (Some k) = if k.gone then None else Some k.element
