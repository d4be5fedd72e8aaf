-- Lines that a node writes: letters, and notes, which begin with `#`. Each ends with LF.
use Rattle.std.specs.Prelude.{ℕ, List, [], ◌∷◌, ◌++◌, map, codes, Option}
use Rattle.std.specs.List.{flat_map}
use Rattle.std.specs.Fmt.{decimal}
use Rattle.la_set.specs.declared.counts.Counts.{Counts}
use Rattle.la_set.specs.declared.update.Update.{Update}
use Rattle.la_set.specs.declared.update.UpdateId.{UpdateId}
use Rattle.la_commit.specs.declared.outcome.Outcome.{Outcome}
use Rattle.la_commit.specs.declared.outcome.Outcome.TheVariants.{Commit, Adopt}
use Rattle.la_commit.specs.Outcomes.{value_of}
use Rattle.la_object.specs.declared.query.Answer.{Answer}
use Rattle.la_node.specs.declared.link.Letter.{Letter}
use Rattle.la_node.specs.declared.link.Standing.{Standing}
use Rattle.la_script.specs.Text.{id_text, answer_text}
use Rattle.la_wire.specs.declared.error.LineFault.{LineFault}
use Rattle.la_wire.specs.declared.error.LineFault.TheVariants as line
use Rattle.la_wire.specs.Joined.{spaced}
use Rattle.la_wire.specs.Messages.{letter_message}
use Rattle.la_wire.specs.MessageLines.{count_words, message_text, standing_text}
use Rattle.la_wire.specs.Requests.{name_words}
use Rattle.la_wire.specs.Questions.{update_word, tags_word, updates_word}
use Rattle.la_wire.specs.Updates.{update_words}
use Rattle.la_wire.specs.Wrongs.{WrongPart, part_text}

-- ## Notes

-- what a replica notes, word by word, without the line's end
abbrev pub begun_note : (own : ℕ) → List (List ℕ) → List ℕ
begun_note own words = codes "# r" ++ decimal own ++ spaced 32 words

abbrev pub note : (own : ℕ) → List (List ℕ) → List ℕ
note own words = begun_note own words ++ 10 ∷ []

-- what answers a request, with its name behind it
abbrev pub answering_note : (own : ℕ) → (name : List ℕ) → List (List ℕ) → List ℕ
answering_note own name words = note own (words ++ name_words name)

-- its update with this number was submitted
abbrev pub submitted_note : (own number : ℕ) → (name : List ℕ) → List ℕ
submitted_note own number name =
    answering_note own name (codes "submitted" ∷ id_text (record { replica = own; number = number }) ∷ [])

-- its value was proposed to an adopt-commit object
abbrev pub proposed_note : (own commit : ℕ) → (name : List ℕ) → List ℕ
proposed_note own commit name = answering_note own name (codes "proposed" ∷ decimal commit ∷ [])

-- in an instance the set of a ballot was learnt, which has so many updates of each replica
abbrev pub learnt_note : (own instance ballot : ℕ) → Counts → List ℕ
learnt_note own instance ballot counts =
    note own (codes "learnt" ∷ decimal instance ∷ decimal ballot ∷ count_words counts)

-- its view has so many updates of each replica now
abbrev pub view_note : (own : ℕ) → Counts → List ℕ
view_note own counts = note own (codes "view" ∷ count_words counts)

abbrev pub outcome_word : Outcome → List ℕ
outcome_word (Commit value) = codes "commit"
outcome_word (Adopt value) = codes "adopt"

-- it returns this from an adopt-commit object
abbrev pub outcome_note : (own commit : ℕ) → Outcome → List ℕ
outcome_note own commit o = note own (codes "outcome" ∷ decimal commit ∷ outcome_word o ∷ decimal (value_of o) ∷ [])

-- an object on its shelf answered this
abbrev pub answered_note : (own object : ℕ) → Answer → (name : List ℕ) → List ℕ
answered_note own object answer name =
    answering_note own name (codes "answered" ∷ decimal object ∷ answer_text answer ∷ [])

-- an object has an element by these updates, each of which put it
abbrev pub tags_note : (own object : ℕ) → (tags : List UpdateId) → (name : List ℕ) → List ℕ
tags_note own object tags name =
    answering_note own name (codes "answered" ∷ decimal object ∷ tags_word ∷ map id_text tags)

-- the view has so many updates of an object, of each replica
abbrev pub updates_note : (own object : ℕ) → Counts → (name : List ℕ) → List ℕ
updates_note own object counts name =
    answering_note own name (codes "answered" ∷ decimal object ∷ updates_word ∷ count_words counts)

-- an update of the view
abbrev pub update_note : (own : ℕ) → Update → (name : List ℕ) → List ℕ
update_note own u name = answering_note own name (update_word ∷ update_words u)

-- what was asked waits for an update
abbrev pub waiting_note : (own : ℕ) → (after : UpdateId) → (name : List ℕ) → List ℕ
waiting_note own after name = answering_note own name (codes "waiting" ∷ id_text after ∷ [])

-- the line with this number, from 1, was refused for this
abbrev pub refused_note : (own number : ℕ) → (why name : List ℕ) → List ℕ
refused_note own number why name = answering_note own name (codes "refused" ∷ decimal number ∷ why ∷ [])

abbrev pub fault_name : LineFault → List ℕ
fault_name line.TooLong = codes "TooLong"
fault_name line.BadLine = codes "BadLine"
fault_name line.BadNumber = codes "BadNumber"

-- what is told on standard error of a line that has a fault, with the part that is wrong
abbrev pub line_fault_line : (number : ℕ) → LineFault → Option WrongPart → (name : List ℕ) → List ℕ
line_fault_line number fault wrong name =
    codes "line " ++ decimal number ++ codes ": " ++ fault_name fault ++ part_text wrong ++ spaced 32
    (name_words name) ++
    10 ∷ []

-- ## Letters

abbrev pub message_line : Letter → List ℕ
message_line letter = message_text (letter_message letter) ++ 10 ∷ []

-- how far a replica is
abbrev pub known_line : Standing → List ℕ
known_line standing = standing_text standing ++ 10 ∷ []

abbrev pub letters_text : List Letter → List ℕ
letters_text letters = flat_map message_line letters
