-- What is given out.
use Rattle.std.specs.Prelude.{ℕ, List, ◌∷◌}
use Rattle.la_journal.specs.Giving.{GivenAt}

-- this is given out, by a disk
abbrev pub gives : {D : Type 0} (moment : D → ℕ) → D → (text : List ℕ) → List GivenAt → List GivenAt
gives moment disk text given = record { moment = moment disk; text = text } ∷ given
