-- A text in pieces: words, and ids of one replica, from its first on. What the ids of a set say is
-- a function of its counts, so each text of ids is a front of the text of a replica's ids.
use Rattle.std.specs.Prelude.{◌≡◌, ℕ, zero, suc, ◌++◌, Bool, true, false, List, [], ◌∷◌, if◌then◌else◌}
use Rattle.la_set.specs.declared.update.UpdateId.{UpdateId}
use Rattle.la_script.specs.Text.{others_text, ids_text}

-- k ids of a replica, the first of which has the number n
abbrev pub ids_from : (replica n k : ℕ) → List UpdateId
ids_from r n zero = []
ids_from r n (suc k) = record { replica = r; number = n } ∷ ids_from r (suc n) k

-- whether there are ids
abbrev pub has_ids : List UpdateId → Bool
has_ids [] = false
has_ids (id ∷ ids) = true

-- the text of ids that stand behind others, or do not
abbrev pub next_ids : (behind : Bool) → List UpdateId → List ℕ
next_ids behind ids = if behind then others_text ids else ids_text ids

-- the text of a replica's first ids
unfoldable pub front : (behind : Bool) → (replica count : ℕ) → List ℕ
front behind r count = next_ids behind (ids_from r 1 count)

-- the ids of the replicas before r, by how many each has
abbrev pub ids_before : (counts : ℕ → ℕ) → (r : ℕ) → List UpdateId
ids_before counts zero = []
ids_before counts (suc r) = ids_before counts r ++ ids_from r 1 (counts r)

-- the text was put behind what was there
abbrev pub AddsText : (before after text : List ℕ) → Type 0
AddsText before after text = after ≡ before ++ text
