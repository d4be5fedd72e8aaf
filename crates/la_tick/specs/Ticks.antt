-- What is handed on of an input where ticks come.
use Rattle.std.specs.Prelude.{◌≡◌, ℕ, ◌+◌, ◌<◌, ◌≤◌, ◌==◌, Bool, true, List, [], ◌∷◌, ◌++◌, length, take, drop}
use Rattle.std.specs.Prelude.{if◌then◌else◌, Option, Some, None, Result, Ok, Err, IsOk, IsErr, IfOk, IfErr}
use Rattle.std.specs.IoError.{error_kind}
use Rattle.std.specs.declared.io.Error.{Error}
use Rattle.la_tick.specs.Paces.{interval}
use Rattle.la_tick.specs.declared.feed.Ending.{Ending}
use Rattle.la_tick.specs.declared.feed.Ending.TheVariants.{Over, Failed}
use Rattle.la_tick.specs.declared.feed.Feed.{Feed}

-- ## What was heard

-- bytes came, an interval passed, or the reader was told that intervals begin anew
pub data Happening : Type 0 where
  Came : List ℕ → Happening
  Passed : Happening
  Anew : Happening

-- what was heard, the newest first
abbrev pub Hearing : Type 0
Hearing = List Happening

-- `tick` and a line's end
abbrev pub tick_line : List ℕ
tick_line = 116 ∷ 105 ∷ 99 ∷ 107 ∷ 10 ∷ []

-- the bytes that came
abbrev pub input : Hearing → List ℕ
input [] = []
input (Came bytes ∷ before) = input before ++ bytes
input (Passed ∷ before) = input before
input (Anew ∷ before) = input before

-- what is made of it: the bytes that came, and a tick for each interval
abbrev pub woven : Hearing → List ℕ
woven [] = []
woven (Came bytes ∷ before) = woven before ++ bytes
woven (Passed ∷ before) = woven before ++ tick_line
woven (Anew ∷ before) = woven before

-- how many intervals passed since they began anew
abbrev pub passed : Hearing → ℕ
passed [] = 0
passed (Came bytes ∷ before) = passed before
passed (Passed ∷ before) = passed before + 1
passed (Anew ∷ before) = 0

-- ## Between lines

-- bytes that stand behind some that ended a line, or behind others, end one
abbrev pub ends_behind : Bool → List ℕ → Bool
ends_behind ended [] = ended
ends_behind ended (b ∷ bytes) = ends_behind (b == 10) bytes

-- the bytes are whole lines, or none
abbrev pub is_whole : List ℕ → Bool
is_whole bytes = ends_behind true bytes

-- each tick came behind whole lines
abbrev pub IsBetweenLines : Hearing → Type 0
IsBetweenLines [] = Unit {0}
IsBetweenLines (Came bytes ∷ before) = IsBetweenLines before
IsBetweenLines (Passed ∷ before) = (is_whole (input before) ≡ true) × IsBetweenLines before
IsBetweenLines (Anew ∷ before) = IsBetweenLines before

-- ## A reader

-- the bytes that came and are not handed on yet, or the tick's
abbrev pub in_hand : Feed → List ℕ
in_hand f = drop f.taken f.chunk

-- how long more is waited for: within a line without a limit
abbrev pub patience : Feed → Option ℕ
patience f = if f.whole then Some f.pace.now else None

-- The reader stands where this was heard and these bytes were handed on: they and those in hand are what is made of it,
-- each tick came between lines, and how long it waits is what the ticks that count say.
pub record Stands (f : Feed) (heard : Hearing) (handed : List ℕ) : Type 0 where
  pub woven : woven heard ≡ handed ++ in_hand f
  pub whole : f.whole ≡ is_whole (input heard)
  pub between : IsBetweenLines heard
  pub interval : f.pace.now ≡ interval f.pace.first (passed heard)

-- these bytes were handed on more, and one thing was heard more, or nothing
pub record HandsOn (f : Feed) (heard : Hearing) (handed bytes : List ℕ) : Type 0 where
  pub new : Hearing
  pub once : length new ≤ 1
  pub stands : Stands f (new ++ heard) (handed ++ bytes)

-- what a read hands on
abbrev pub handed_by : {E : Type 0} → Result ℕ E → (room : List ℕ) → List ℕ
handed_by (Ok n) room = take n room
handed_by (Err e) room = []

-- what a read with room answers: at the input's end no byte, where a read failed its error, and else one byte at least
abbrev pub EndsAs : Option Ending → Result ℕ Error → Type 0
EndsAs None answer = IfOk answer (λ n. 0 < n) × IsOk answer
EndsAs (Some Over) answer = answer ≡ Ok 0
EndsAs (Some (Failed kind)) answer = IsErr answer × IfErr answer (λ e. error_kind e ≡ kind)
