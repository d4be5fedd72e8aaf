-- An update that a node tells, as the line of its answer, and as it is read from that.
use Rattle.std.specs.Prelude.{ℕ, ◌==◌, ◌&&◌, Bool, false, List, [], ◌∷◌, ◌++◌, codes, Result, Err, if◌then◌else◌}
use Rattle.std.specs.Option.{is_some}
use Rattle.std.specs.Str.{bytes_eq}
use Rattle.la_set.specs.declared.update.Update.{Update}
use Rattle.la_script.specs.Lines.{words_of}
use Rattle.la_script.specs.Numbers.{u8_max, number}
use Rattle.la_wire.specs.declared.error.LineFault.{LineFault}
use Rattle.la_wire.specs.declared.error.LineFault.TheVariants.{BadLine}
use Rattle.la_wire.specs.Notes.{begun_note}
use Rattle.la_wire.specs.Questions.{update_word}
use Rattle.la_wire.specs.Requests.{name_words, unnamed_in}
use Rattle.la_wire.specs.Updates.{update_words, update_in}

-- the line, without its end, that answers a request of this name
abbrev pub told_line : (own : ℕ) → Update → (name : List ℕ) → List ℕ
told_line own u name = begun_note own ((update_word ∷ update_words u) ++ name_words name)

-- the word of a note that says whose it is: `r`, and the number of a replica
abbrev pub is_noter : List ℕ → Bool
is_noter [] = false
is_noter (b ∷ digits) = (b == 114) && is_some (number 0 u8_max digits)

-- by the words of a note
abbrev pub update_in_words : List (List ℕ) → Result Update LineFault
update_in_words (first ∷ noter ∷ word ∷ words) =
    if bytes_eq first (codes "#") && (is_noter noter && bytes_eq word update_word) then update_in words else Err BadLine
update_in_words _ = Err BadLine

-- the update that a line tells, behind which a name may stand
unfoldable pub update_in_note : List ℕ → Result Update LineFault
update_in_note line = update_in_words (words_of (unnamed_in line))
