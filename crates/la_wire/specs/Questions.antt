-- What a client asks of a node that no call says, a submission that takes an element out by what is seen, and a
-- question that waits for an update: each by the words of its line.
use Rattle.std.specs.Prelude.{ℕ, ◌+◌, ◌-◌, ◌≤◌, Bool, List, [], ◌∷◌, length, take, slice_index_or, codes, ◌&&◌}
use Rattle.std.specs.Prelude.{Option, Some, None, option_map, if◌then◌else◌}
use Rattle.std.specs.Fmt.{decimal}
use Rattle.std.specs.Str.{bytes_eq}
use Rattle.la_set.specs.declared.update.UpdateId.{UpdateId}
use Rattle.la_script.specs.declared.forms.Keyword.TheVariants as keyword
use Rattle.la_script.specs.Forms.{spelling}
use Rattle.la_script.specs.Lines.{words_of}
use Rattle.la_script.specs.Numbers.{u8_max, u16_max, u32_max, u64_max, number}
use Rattle.la_script.specs.Tags.{tag_of}
use Rattle.la_script.specs.Text.{id_text}
use Rattle.la_wire.specs.declared.questions.Question.{Question}
use Rattle.la_wire.specs.declared.questions.Question.TheVariants.{Tags, Updates, Update, Status}
use Rattle.la_wire.specs.declared.questions.Take.{Take}
use Rattle.la_wire.specs.declared.questions.Awaited.{Awaited}
use Rattle.la_wire.specs.Joined.{joined_by}
use Rattle.la_wire.specs.Writable.{IsId}

-- ## The words that no script has

abbrev pub status_word : List ℕ
status_word = codes "status"

abbrev pub update_word : List ℕ
update_word = codes "update"

abbrev pub tags_word : List ℕ
tags_word = codes "tags"

abbrev pub updates_word : List ℕ
updates_word = codes "updates"

abbrev pub take_word : List ℕ
take_word = codes "take"

abbrev pub at_word : List ℕ
at_word = codes "at"

-- ## Questions

-- which updates put an element, where each number is one
abbrev pub tags_question : (replica object element : Option ℕ) → Option Question
tags_question (Some r) (Some o) (Some x) = Some (Tags r o x)
tags_question _ _ _ = None

-- how many updates of an object there are
abbrev pub updates_question : (replica object : Option ℕ) → Option Question
updates_question (Some r) (Some o) = Some (Updates r o)
updates_question _ _ = None

-- by the words behind `ask`
abbrev pub question_asked : List (List ℕ) → Option Question
question_asked (replica ∷ object ∷ word ∷ []) =
    if bytes_eq word updates_word then updates_question (number 0 u8_max replica) (number 0 u16_max object) else None
question_asked (replica ∷ object ∷ word ∷ element ∷ []) =
    if bytes_eq word tags_word
    then tags_question (number 0 u8_max replica) (number 0 u16_max object) (number 0 u64_max element) else None
question_asked _ = None

-- by the words behind `status`
abbrev pub status_asked : List (List ℕ) → Option Question
status_asked (replica ∷ []) = option_map Status (number 0 u8_max replica)
status_asked _ = None

-- which update has an id
abbrev pub update_question : (replica : Option ℕ) → (id : Option UpdateId) → Option Question
update_question (Some r) (Some id) = Some (Update r id)
update_question _ _ = None

-- by the words behind `update`
abbrev pub update_asked : List (List ℕ) → Option Question
update_asked (replica ∷ id ∷ []) = update_question (number 0 u8_max replica) (tag_of id)
update_asked _ = None

abbrev pub question_by : List (List ℕ) → Option Question
question_by [] = None
question_by (word ∷ words) =
    if bytes_eq word status_word then status_asked words else
    if bytes_eq word update_word then update_asked words else
    if bytes_eq word (spelling keyword.Ask) then question_asked words else None

-- the question that a line is: `ask R O tags X`, `ask R O updates`, `update R P.N` or `status R`
unfoldable pub question_in : List ℕ → Option Question
question_in line = question_by (words_of line)

-- ## Takes

-- who takes, and under which number: an id says both
abbrev pub taker_by : (word : List ℕ) → Option UpdateId → Option (ℕ × Option ℕ)
taker_by word (Some id) = Some (id.replica, Some id.number)
taker_by word None = option_map (λ replica. (replica, None)) (number 0 u8_max word)

-- the same by a word, which is an id, or else a replica's number
abbrev pub taker_of : List ℕ → Option (ℕ × Option ℕ)
taker_of word = taker_by word (tag_of word)

abbrev pub taken_by : (taker : Option (ℕ × Option ℕ)) → (object element : Option ℕ) → Option Take
taken_by (Some by) (Some o) (Some x) = Some (record { replica = by.0; number = by.1; object = o; element = x })
taken_by _ _ _ = None

abbrev pub take_by : List (List ℕ) → Option Take
take_by (first ∷ taker ∷ object ∷ word ∷ element ∷ []) =
    if bytes_eq first (spelling keyword.Submit) && bytes_eq word take_word
    then taken_by (taker_of taker) (number 0 u16_max object) (number 0 u64_max element) else None
take_by _ = None

-- the take that a line is: `submit R O take X`, or with an id in place of R
unfoldable pub take_in : List ℕ → Option Take
take_in line = take_by (words_of line)

-- ## Questions that wait

-- a question that waits, apart: the update that it waits for, and the question
pub record AwaitedLine : Type 0 where
  pub after : UpdateId
  pub plain : List ℕ

abbrev pub awaited_line : Awaited → AwaitedLine
awaited_line a = record { after = a.after; plain = a.plain.now }

-- a line without `at` and this word at its end, and without the spaces before them
abbrev pub without_at : (line word : List ℕ) → List ℕ
without_at line word = take (length line - (length word + 4)) line

-- apart, where this word at its end is an id
abbrev pub awaited_by : (line word : List ℕ) → Option AwaitedLine
awaited_by line word =
    option_map (λ (id : UpdateId). record { after = id; plain = without_at line word }) (tag_of word)

-- of words, as many from the last on
abbrev pub from_last : (back : ℕ) → List (List ℕ) → List ℕ
from_last back words = slice_index_or words (length words - back) []

-- the first word is `ask`, and the last but one is `at`: so they are three at least
abbrev pub awaits : List (List ℕ) → Bool
awaits words = bytes_eq (slice_index_or words 0 []) (spelling keyword.Ask) && bytes_eq (from_last 2 words) at_word

-- a line that begins with `ask` and ends with `at` and an id; any other waits for nothing
unfoldable pub awaited_in : List ℕ → Option AwaitedLine
awaited_in line = if awaits (words_of line) then awaited_by line (from_last 1 (words_of line)) else None

-- ## As they are written

abbrev pub question_text : Question → List ℕ
question_text (Tags r o x) =
    joined_by 32 (spelling keyword.Ask ∷ decimal r ∷ decimal o ∷ tags_word ∷ decimal x ∷ [])
question_text (Updates r o) = joined_by 32 (spelling keyword.Ask ∷ decimal r ∷ decimal o ∷ updates_word ∷ [])
question_text (Update r id) = joined_by 32 (update_word ∷ decimal r ∷ id_text id ∷ [])
question_text (Status r) = joined_by 32 (status_word ∷ decimal r ∷ [])

-- who takes, as a word
abbrev pub taker_text : (replica : ℕ) → (number : Option ℕ) → List ℕ
taker_text r None = decimal r
taker_text r (Some n) = id_text (record { replica = r; number = n })

abbrev pub take_text : Take → List ℕ
take_text t =
    joined_by 32
    (spelling keyword.Submit ∷ taker_text t.replica t.number ∷ decimal t.object ∷ take_word ∷ decimal t.element ∷ [])

-- ## What can be had

-- each number is in the range of its type
abbrev pub IsQuestion : Question → Type 0
IsQuestion (Tags r o x) = (r ≤ u8_max) × (o ≤ u16_max) × (x ≤ u64_max)
IsQuestion (Updates r o) = (r ≤ u8_max) × (o ≤ u16_max)
IsQuestion (Update r id) = (r ≤ u8_max) × IsId id
IsQuestion (Status r) = r ≤ u8_max

-- an update's number, from 1, where there is one
abbrev pub IsTakeNumber : Option ℕ → Type 0
IsTakeNumber None = Unit {0}
IsTakeNumber (Some n) = (1 ≤ n) × (n ≤ u32_max)

pub record IsTake (t : Take) : Type 0 where
  pub replica : t.replica ≤ u8_max
  pub number : IsTakeNumber t.number
  pub object : t.object ≤ u16_max
  pub element : t.element ≤ u64_max
