-- What is read line by line.
use Rattle.std.specs.Prelude.{◌≡◌, ℕ, ◌<◌, ◌==◌, Bool, true, false, List, [], ◌∷◌, ◌++◌, length, take, drop, All, Option}
use Rattle.std.specs.List.{list_any}
use Rattle.std.specs.Io.KnownBytes.{Consumes, IsAtEnd, prepend_known}
use Rattle.la_io.specs.Limits.{is_too_long}
use Rattle.la_io.specs.declared.source.Next.{Next}
use Rattle.la_io.specs.declared.source.Next.TheVariants as next
use Rattle.la_io.specs.declared.source.Source.{Source}

-- ## Lines

-- no byte ends a line
abbrev pub IsOneLine : List ℕ → Type 0
IsOneLine line = All (λ b. (b == 10) ≡ false) line

-- ## A source

-- the bytes that were read and are not taken
abbrev pub pending : Source → List ℕ
pending s = drop s.start (take s.end s.chunk)

-- one of them ends a line
abbrev pub has_line : Source → Bool
has_line s = list_any (λ b. b == 10) (pending s)

-- what is ahead: those, and what the reader has left
abbrev pub ahead : Source → Option (List ℕ) → Option (List ℕ)
ahead s left = prepend_known (pending s) left

-- some bytes were taken
abbrev pub TakesSome : (before after : Option (List ℕ)) → Type 0
TakesSome before after = (bytes : List ℕ) × Consumes before after bytes

-- the bytes up to a line's end, with it, or all there were
abbrev pub end_of : (ended : Bool) → List ℕ
end_of true = 10 ∷ []
end_of false = []

-- the line is kept while it is short
abbrev pub IsHeld : (is_long : Bool) → (got line : List ℕ) → Type 0
IsHeld true got line = is_too_long got ≡ true
IsHeld false got line = line ≡ got

-- a part of a line was taken
pub record IsPart (before after : List ℕ) (ended : Bool) (part : List ℕ) : Type 0 where
  pub one : IsOneLine part
  pub taken : before ≡ part ++ end_of ended ++ after
  pub all : ended ≡ false → after ≡ []

-- what an ended line is
abbrev pub of_line : (is_long : Bool) → Next
of_line true = next.Long
of_line false = next.Line

-- what the end of an input ends
abbrev pub last_kind : (is_long : Bool) → (line : List ℕ) → Next
last_kind true line = next.Cut
last_kind false [] = next.End
last_kind false (b ∷ line) = next.Cut

-- what stands next
abbrev pub IsNextLine : (before after : Option (List ℕ)) → (line : List ℕ) → Next → Type 0
IsNextLine before after line next.Line = IsOneLine line × Consumes before after (line ++ 10 ∷ [])
IsNextLine before after line next.Long =
    (long : List ℕ) × IsOneLine long × (is_too_long long ≡ true) × Consumes before after (long ++ 10 ∷ [])
IsNextLine before after line next.Cut =
    (rest : List ℕ) × (0 < length rest) × IsOneLine rest × Consumes before after rest × IsAtEnd after
IsNextLine before after line next.End = Consumes before after [] × IsAtEnd after
