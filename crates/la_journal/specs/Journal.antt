-- What a journal says: a state, and then calls.
use Rattle.std.specs.Prelude.{◌≡◌, ℕ, Bool, false, not, ◌&&◌, List, [], ◌∷◌, ◌++◌, Option, Some, None, if◌then◌else◌}
use Rattle.std.specs.Prelude.{◌==◌}
use Rattle.la_journal.specs.Lines.{IsClean}
use Rattle.la_journal.specs.Commits.{same_bytes, is_record}
use Rattle.la_journal.specs.Records.{Parts, parts, ended, is_damage}

-- ## Its lines

-- the bytes of these groups, without records
abbrev pub in_a_row : List (List ℕ) → List ℕ
in_a_row [] = []
in_a_row (g ∷ gs) = g ++ in_a_row gs

abbrev pub lines_in : Option Parts → List (List ℕ)
lines_in None = []
lines_in (Some p) = ended (in_a_row p.these)

-- the lines that a file keeps: those of its groups
abbrev pub lines : List ℕ → List (List ℕ)
lines file = lines_in (parts file)

-- what its head says
abbrev pub text_in : Option Parts → List ℕ
text_in None = []
text_in (Some p) = p.text

-- the digest that its last record ends in, or its head
abbrev pub last_in : Option Parts → List ℕ
last_in None = []
last_in (Some p) = p.last

-- ## What they say

-- a state as a line: it begins with '=', and no call's does
abbrev pub state_line : List ℕ → List ℕ
state_line text = 61 ∷ text

-- the text of the state that a line says, where it is no call's
abbrev pub state_in : List ℕ → Option (List ℕ)
state_in [] = None
state_in (b ∷ text) = if b == 61 then Some text else None

-- how a call may be written: not as a state, and not as a record
abbrev pub IsCallLine : List ℕ → Type 0
IsCallLine line = IsClean line × (state_in line ≡ None) × (is_record line ≡ false)

-- the text of a state, where the first line is one, and the lines behind it, calls if the journal is sound
pub record Journal : Type 0 where
  pub state : Option (List ℕ)
  pub calls : List (List ℕ)

abbrev pub begun_by : Option (List ℕ) → List ℕ → List (List ℕ) → Journal
begun_by None line rest = record { state = None; calls = line ∷ rest }
begun_by (Some text) line rest = record { state = Some text; calls = rest }

abbrev pub journal : List (List ℕ) → Journal
journal [] = record { state = None; calls = [] }
journal (line ∷ rest) = begun_by (state_in line) line rest

-- what the bytes of a file say
abbrev pub says : List ℕ → Journal
says file = journal (lines file)

-- ## Whether it can be played

abbrev pub has_head : (head : List ℕ) → Option Parts → Bool
has_head head None = false
has_head head (Some p) = same_bytes head p.text && not (is_damage p.rest)

-- A file begins with a head that says this, and what stands behind its groups is no damage. So one without a byte is
-- not sound: nothing says whose it is, and it may be all that is left of another.
abbrev pub is_sound : (head file : List ℕ) → Bool
is_sound head file = has_head head (parts file)
