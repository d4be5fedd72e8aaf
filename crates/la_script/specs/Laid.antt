-- How a text in pieces is kept: marks, and all words and all numbers that they take, one after
-- another. Words that no mark takes stand behind all else. The texts of the ids are kept ready.
use Rattle.std.specs.Prelude.{◌≡◌, ℕ, ◌+◌, ◌<◌, ◌≤◌, true, List, [], ◌∷◌, ◌++◌, length, drop, slice_index, slice_index_or}
use Rattle.std.specs.Str.{IsUtf8}
use Rattle.la_set.specs.declared.set.TheConstants.{REPLICAS}
use Rattle.la_script.specs.declared.marks.Mark.{Mark}
use Rattle.la_script.specs.declared.marks.Mark.TheVariants.{Words, Ids, MoreIds, Counted, Ignored, Kept, Yes}
use Rattle.la_script.specs.Pieces.{front}
use Rattle.la_script.specs.Marks.{mark_words, numbers_of, mark_text, words_in}

-- the text of a replica's first ids, each with a space before it, and the places where they end
pub record IsIdText (replica : ℕ) (text ends : List ℕ) : Type 0 where
  pub is : text ≡ front true replica (length ends)
  pub each : (k : ℕ) → k < length ends → slice_index ends k ≡ length (front true replica (k + 1))

-- the text: each mark's in turn, and then the words that are left
abbrev pub laid_text : List Mark → (words numbers : List ℕ) → List ℕ
laid_text [] words numbers = words
laid_text (m ∷ marks) words numbers =
    mark_text m words numbers ++
    laid_text marks (drop (mark_words m) words) (drop (numbers_of m) numbers)

-- of a replica, by its number: whose the kept text is, and how many ids it has
abbrev pub kept_of : List (ℕ × ℕ) → ℕ → ℕ × ℕ
kept_of ids r = slice_index_or ids r (0, 0)

-- so many ids of a replica are ready, and there are some
pub record AreIds (ids : List (ℕ × ℕ)) (replica count : ℕ) : Type 0 where
  pub known : replica < REPLICAS
  pub some : 0 < count
  pub ready : count ≤ (kept_of ids replica).1

-- what a mark takes is there, and what it stands for is ready
abbrev pub IsReadyMark : (ids : List (ℕ × ℕ)) → Mark → (words numbers : List ℕ) → Type 0
IsReadyMark ids (Words n) words numbers = (0 < n) × (n ≤ length words)
IsReadyMark ids (Ids r) words numbers = (1 ≤ length numbers) × AreIds ids r (slice_index numbers 0)
IsReadyMark ids (MoreIds r) words numbers = (1 ≤ length numbers) × AreIds ids r (slice_index numbers 0)
IsReadyMark ids Counted words numbers = 1 ≤ length numbers
IsReadyMark ids Ignored words numbers = 1 ≤ length numbers
IsReadyMark ids Kept words numbers = 1 ≤ length numbers
IsReadyMark ids Yes words numbers = 2 ≤ length numbers

-- each mark finds what it takes, and no number is left
abbrev pub AreReady : (ids : List (ℕ × ℕ)) → List Mark → (words numbers : List ℕ) → Type 0
AreReady ids [] words numbers = numbers ≡ []
AreReady ids (m ∷ marks) words numbers =
    IsReadyMark ids m words numbers ×
    AreReady ids marks (drop (mark_words m) words) (drop (numbers_of m) numbers)

-- each replica's text is its own
abbrev pub AreOwn : (ids : List (ℕ × ℕ)) → Type 0
AreOwn ids = (r : ℕ) → r < REPLICAS → (kept_of ids r).0 ≡ r

-- a text that is walked along
pub record IsWalked (marks : List Mark) (words numbers : List ℕ) (ids : List (ℕ × ℕ)) : Type 0 where
  pub each : AreReady ids marks words numbers
  pub whose : AreOwn ids

-- a text that is kept; so many of its words have a mark
pub record IsLaid (marks : List Mark) (words numbers : List ℕ) (marked : ℕ) (ids : List (ℕ × ℕ)) : Type 0 where
  pub each : AreReady ids marks words numbers
  pub whose : AreOwn ids
  pub all : marked ≡ words_in marks
  pub utf8 : IsUtf8 (laid_text marks words numbers)
