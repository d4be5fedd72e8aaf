-- What a crash might have left of a file, by what it was.
use Rattle.std.specs.Prelude.{◌≡◌, ◌≢◌, ◌⊎◌, ℕ, ◌≤◌, ◌<◌, List, [], ◌∷◌, ◌++◌, length, take, drop}
use Rattle.std.proofs.Common.{arith, refl, subst, append_assoc}
use Rattle.std.proofs.lemmas.List.{append-nil}
use mathlib.Core.Logic.{inl, inr}
use Rattle.la_journal.specs.Disk.{Torn, IsUnread}
use Rattle.la_journal.specs.Records.{parts}
use Rattle.la_journal.specs.Journal.{in_a_row}
use Rattle.la_journal.specs.Note.{Moment, now_of, bytes_in}

-- after these pieces were put behind bytes that are on the disk, and a crash
abbrev pub LeftOf : List ℕ → List (List ℕ) → List ℕ → Type 0
LeftOf kept [] c = c ≡ kept
LeftOf kept (piece ∷ more) c = (d : List ℕ) × Torn piece kept d × LeftOf d more c

-- Where all that is not on the disk was put behind it at once: no crash leaves these bytes behind those that are. They
-- are not what is there, and either all of the file is on the disk, or digests would not see them (`IsUnread`).
abbrev pub IsNoCrash : (kept : ℕ) → (bytes torn : List ℕ) → Type 0
IsNoCrash kept bytes torn =
    (torn ≢ drop kept bytes) × ((length bytes ≤ kept) ⊎ (IsUnread (parts (take kept bytes)) torn → ⊥))

-- at a moment: of one of these
abbrev pub LeftAt : Moment → List ℕ → Type 0
LeftAt [] c = ⊥
LeftAt (e ∷ rest) c = LeftOf e.kept e.more c ⊎ LeftAt rest c

-- from moment t on; the newest first
abbrev pub LeftSince : List Moment → ℕ → List ℕ → Type 0
LeftSince [] t c = ⊥
LeftSince (m ∷ past) t c = ((t ≤ length (m ∷ past)) × LeftAt m c) ⊎ LeftSince past t c

none_since : (past : List Moment) (t : ℕ) (c : List ℕ) → length past < t → LeftSince past t c → ⊥
none_since [] t c late had = had
none_since (m ∷ past) t c late (inl had) = omega (arith, late, had.0)
none_since (m ∷ past) t c late (inr had) = none_since past t c (omega (arith, late)) had

pub only_left : (past : List Moment) (c : List ℕ) → LeftSince past (length past) c → LeftAt (now_of past) c
only_left [] c left = left
only_left (m ∷ past) c (inl now) = now.1
only_left (m ∷ past) c (inr had) = absurd (none_since past (length (m ∷ past)) c (omega arith) had)

pub left_now : (past : List Moment) (t : ℕ) (c : List ℕ) → t ≤ length past → LeftAt (now_of past) c → LeftSince past t c
left_now [] t c le left = left
left_now (m ∷ past) t c le left = inl (le, left)

left_whole : (kept : List ℕ) (more : List (List ℕ)) → LeftOf kept more (kept ++ in_a_row more)
left_whole kept [] = append-nil kept
left_whole kept (piece ∷ more) = (
  kept ++ piece,
  (piece, inl refl, refl),
  subst (LeftOf (kept ++ piece) more) (append_assoc kept piece (in_a_row more)) (left_whole (kept ++ piece) more),
)

-- what is there
pub left_there : (now : Moment) → 0 < length now → LeftAt now (bytes_in now)
left_there [] there = absurd (omega (arith, there))
left_there (e ∷ rest) there = inl (left_whole e.kept e.more)
