-- What a mark stands for: it takes words and numbers from the front of those that are left.
use Rattle.std.specs.Prelude.{◌≡◌, ℕ, ◌+◌, ◌<◌, Bool, true, false, List, [], ◌∷◌, ◌++◌, length, take, slice_index, All, if◌then◌else◌}
use Rattle.la_script.specs.declared.marks.Mark.{Mark}
use Rattle.la_script.specs.declared.marks.Mark.TheVariants.{Words, Ids, MoreIds, Counted, Ignored, Kept, Yes}
use Rattle.la_script.specs.declared.marks.Plain.TheVariants as plain
use Rattle.la_script.specs.Pieces.{front}
use Rattle.la_script.specs.Plain.{plain_line}

-- how many words it takes
abbrev pub mark_words : Mark → ℕ
mark_words (Words n) = n
mark_words (Ids r) = 0
mark_words (MoreIds r) = 0
mark_words Counted = 0
mark_words Ignored = 0
mark_words Kept = 0
mark_words Yes = 0

-- how many numbers it takes
abbrev pub numbers_of : Mark → ℕ
numbers_of (Words n) = 0
numbers_of (Ids r) = 1
numbers_of (MoreIds r) = 1
numbers_of Counted = 1
numbers_of Ignored = 1
numbers_of Kept = 1
numbers_of Yes = 2

-- its text
abbrev pub mark_text : Mark → (words numbers : List ℕ) → List ℕ
mark_text (Words n) words numbers = take n words
mark_text (Ids r) words numbers = front false r (slice_index numbers 0)
mark_text (MoreIds r) words numbers = front true r (slice_index numbers 0)
mark_text Counted words numbers = plain_line (slice_index numbers 0) plain.Counted
mark_text Ignored words numbers = plain_line (slice_index numbers 0) plain.Ignored
mark_text Kept words numbers = plain_line (slice_index numbers 0) plain.Kept
mark_text Yes words numbers =
    plain_line (slice_index numbers 0) (plain.Yes (slice_index numbers 1))

-- the mark of ids, by whether they stand behind others
abbrev pub ids_mark : (behind : Bool) → (replica : ℕ) → Mark
ids_mark behind r = if behind then MoreIds r else Ids r

-- it is the mark of a line, and these are its numbers
abbrev pub IsLine : Mark → (numbers : List ℕ) → Type 0
IsLine (Words n) numbers = ⊥
IsLine (Ids r) numbers = ⊥
IsLine (MoreIds r) numbers = ⊥
IsLine Counted numbers = length numbers ≡ 1
IsLine Ignored numbers = length numbers ≡ 1
IsLine Kept numbers = length numbers ≡ 1
IsLine Yes numbers = length numbers ≡ 2

-- how many words marks take
abbrev pub words_in : List Mark → ℕ
words_in [] = 0
words_in (m ∷ marks) = mark_words m + words_in marks

-- it takes some words and nothing else
abbrev pub IsRunMark : Mark → Type 0
IsRunMark (Words n) = 0 < n
IsRunMark (Ids r) = ⊥
IsRunMark (MoreIds r) = ⊥
IsRunMark Counted = ⊥
IsRunMark Ignored = ⊥
IsRunMark Kept = ⊥
IsRunMark Yes = ⊥

-- so many words were marked
abbrev pub AddsRuns : (words : ℕ) → (before after : List Mark) → Type 0
AddsRuns words before after =
    (runs : List Mark) × (after ≡ before ++ runs) × All IsRunMark runs × (words_in runs ≡ words)

-- so many words were marked, and then this mark was added
abbrev pub AddsMark : (words : ℕ) → Mark → (before after : List Mark) → Type 0
AddsMark words m before after =
    (marks : List Mark) × AddsRuns words before marks × (after ≡ marks ++ m ∷ [])
