-- The name of a request: behind what a client calls for there may stand ` @` and a name, which then stands behind what
-- answers it. And the number of a submission: in place of its replica's number there may stand the id that the update
-- is to have.
use Rattle.std.specs.Prelude.{⊤, ℕ, ◌+◌, ◌-◌, nat_le, ◌==◌, Bool, not, ◌&&◌, ◌||◌, List, [], ◌∷◌, ◌++◌, length, take}
use Rattle.std.specs.Prelude.{drop, position, slice_index_or, Option, Some, None, option_map, if◌then◌else◌}
use Rattle.std.specs.List.{list_all, before_first}
use Rattle.std.specs.Option.{is_some}
use Rattle.std.specs.Char.{is_ascii_alphanumeric}
use Rattle.std.specs.Fmt.{decimal}
use Rattle.std.specs.Str.{bytes_eq}
use Rattle.la_set.specs.declared.update.Op.{Op}
use Rattle.la_set.specs.declared.update.UpdateId.{UpdateId}
use Rattle.la_script.specs.declared.forms.Keyword.TheVariants as keyword
use Rattle.la_script.specs.Forms.{spelling}
use Rattle.la_script.specs.Tags.{tag_of}
use Rattle.la_script.specs.Text.{id_text}
use Rattle.la_wire.specs.declared.requests.TheConstants.{MAX_NAME}
use Rattle.la_wire.specs.declared.requests.NumberedCall.{NumberedCall}
use Rattle.la_wire.specs.Joined.{joined_by, front_word, behind_word}
use Rattle.la_wire.specs.Updates.{op_words}
use Rattle.la_wire.specs.Calls.{WireCall, Submit}
use Rattle.la_wire.specs.CallLines.{first_kind, is_known}

-- a letter, a digit, or one of `_.:-`
abbrev pub is_name_byte : ℕ → Bool
is_name_byte b = is_ascii_alphanumeric b || ((b == 95) || ((b == 46) || ((b == 58) || (b == 45))))

abbrev pub is_name : List ℕ → Bool
is_name bytes = (nat_le 1 (length bytes) && nat_le (length bytes) MAX_NAME) && list_all is_name_byte bytes

-- a line of another replica's, by its first word: it has no name
abbrev pub is_of_peer : List ℕ → Bool
is_of_peer line = is_some (first_kind line) || is_known line

abbrev pub has_no_at : List ℕ → Bool
has_no_at line = list_all (λ b. not (b == 64)) line

-- a line apart: what is called for, and the name of the request, empty where it has none
pub record Asked : Type 0 where
  pub call : List ℕ
  pub name : List ℕ

abbrev pub nameless : List ℕ → Asked
nameless line = record { call = line; name = [] }

-- a space stands before this place, and a name behind it
abbrev pub is_named_at : List ℕ → (at : ℕ) → Bool
is_named_at line at = nat_le 1 at && ((slice_index_or line (at - 1) 0 == 32) && is_name (drop (at + 1) line))

-- apart at an `@` that stands so
abbrev pub asked_at : List ℕ → Option ℕ → Asked
asked_at line None = nameless line
asked_at line (Some at) =
    if is_named_at line at then record { call = take (at - 1) line; name = drop (at + 1) line } else nameless line

-- apart at the first `@`
unfoldable pub asked_in : List ℕ → Asked
asked_in line = if is_of_peer line then nameless line else asked_at line (position (λ b. b == 64) line)

abbrev pub unnamed_in : List ℕ → List ℕ
unnamed_in line = (asked_in line).call

abbrev pub name_in : List ℕ → List ℕ
name_in line = (asked_in line).name

-- the name as a word, where there is one
abbrev pub name_words : List ℕ → List (List ℕ)
name_words [] = []
name_words (b ∷ bytes) = (64 ∷ b ∷ bytes) ∷ []

-- ## The number of a submission

-- a submission apart: the number of the update, and the line without it
pub record NumberedLine : Type 0 where
  pub number : ℕ
  pub plain : List ℕ

abbrev pub numbered_line : NumberedCall → NumberedLine
numbered_line c = record { number = c.number; plain = c.plain.items }

-- a submission by this word, of an object and with an operation that the rest says
abbrev pub submission_line : (word rest : List ℕ) → List ℕ
submission_line word rest = spelling keyword.Submit ++ 32 ∷ word ++ 32 ∷ rest

-- apart, where this word is an id: without what stands in it from the full stop on
abbrev pub numbered_by : (word rest : List ℕ) → Option NumberedLine
numbered_by word rest =
    option_map
    (λ (id : UpdateId). record { number = id.number; plain = submission_line (before_first (λ b. b == 46) word) rest })
    (tag_of word)

-- a line that begins with `submit` and an id; any other has no number
unfoldable pub numbered_in : List ℕ → Option NumberedLine
numbered_in line =
    if bytes_eq (front_word line) (spelling keyword.Submit)
    then numbered_by (front_word (behind_word line)) (behind_word (behind_word line)) else None

-- a submission as a client writes it under a number
abbrev pub numbered_submission : UpdateId → (object : ℕ) → Op → List ℕ
numbered_submission id object op = submission_line (id_text id) (joined_by 32 (decimal object ∷ op_words op))

-- ## What is called for

abbrev pub unnumbered : (line : List ℕ) → Option NumberedLine → List ℕ
unnumbered line None = line
unnumbered line (Some n) = n.plain

-- without a name and without a number
abbrev pub called_in : List ℕ → List ℕ
called_in line = unnumbered (unnamed_in line) (numbered_in (unnamed_in line))

-- and under which number, where it says so
abbrev pub asked_number : List ℕ → Option ℕ
asked_number line = option_map (λ (n : NumberedLine). n.number) (numbered_in (unnamed_in line))

-- a submission by some replica
abbrev pub IsSubmission : WireCall → Type 0
IsSubmission (Submit replica object op) = ⊤
IsSubmission _ = ⊥
