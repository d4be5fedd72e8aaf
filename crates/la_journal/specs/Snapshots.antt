-- The bytes of a journal that says a state alone.
use Rattle.std.specs.Prelude.{◌≡◌, ℕ, List, [], ◌∷◌, ◌++◌, Option, Some}
use Rattle.la_journal.specs.Lines.{IsClean}
use Rattle.la_journal.specs.Journal.{state_line}
use Rattle.la_journal.specs.Commits.{with_record}
use Rattle.la_journal.specs.Records.{digest, link, record_line, head_line}

-- one whole line, of a text that says this state
pub record IsSnapshot {S : Type 0} (named_state : List ℕ → Option S) (state : S) (bytes : List ℕ) : Type 0 where
  pub text : List ℕ
  pub clean : IsClean text
  pub names : named_state text ≡ Some state
  pub is : bytes ≡ state_line text ++ 10 ∷ []

-- the digest that the record of a first group ends in, behind a head
abbrev pub first_link : (head group : List ℕ) → List ℕ
first_link head group = link (record_line (digest head) group)

-- the digest that a record of no lines ends in, behind another
abbrev pub seal_link : List ℕ → List ℕ
seal_link last = link (record_line last [])

-- Two records of no lines, behind what ends in a digest: whatever byte in front of them has changed, one of them tells.
abbrev pub seals : List ℕ → List ℕ
seals last = with_record record_line last [] ++ with_record record_line (seal_link last) []

-- a file with this head, a state as its one group with lines, and seals behind it, and the digest that it ends in
pub record IsCompacted {S : Type 0} (named_state : List ℕ → Option S) (state : S) (head file last : List ℕ) : Type 0
  where
    pub group : List ℕ
    pub snapshot : IsSnapshot named_state state group
    pub is : file
        ≡ head_line head ++ 10 ∷ (with_record record_line (digest head) group ++ seals (first_link head group))
    pub ends : last ≡ seal_link (seal_link (first_link head group))
