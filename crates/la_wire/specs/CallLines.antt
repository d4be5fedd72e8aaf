-- A call as a line: a message, `tick`, or an event of a script of version 2 that is no delivery.
use Rattle.std.specs.Prelude.{ℕ, Bool, true, false, not, ◌&&◌, List, [], ◌∷◌, codes, Option, Some, None}
use Rattle.std.specs.Prelude.{Result, Ok, Err, ◌==◌, if◌then◌else◌}
use Rattle.std.specs.List.{before_first, list_all}
use Rattle.std.specs.Fmt.{decimal}
use Rattle.std.specs.Str.{bytes_eq}
use Rattle.la_object.specs.declared.query.Query.{Query}
use Rattle.la_object.specs.declared.query.Query.TheVariants as query
use Rattle.la_world.specs.declared.event.Event.{Event}
use Rattle.la_world.specs.declared.event.Event.TheVariants as event
use Rattle.la_script.specs.declared.error.FaultName.{FaultName}
use Rattle.la_script.specs.declared.error.FaultName.TheVariants as script
use Rattle.la_script.specs.declared.forms.Keyword.TheVariants as keyword
use Rattle.la_script.specs.declared.script.Version.TheVariants.{Two}
use Rattle.la_script.specs.Forms.{spelling, form_of}
use Rattle.la_script.specs.Lines.{words_of, event_in}
use Rattle.la_wire.specs.declared.error.LineFault.{LineFault}
use Rattle.la_wire.specs.declared.error.LineFault.TheVariants.{TooLong, BadLine, BadNumber}
use Rattle.la_wire.specs.declared.messages.Kind.{Kind}
use Rattle.la_wire.specs.declared.updates.Verb.TheVariants as verb
use Rattle.la_script.specs.Numbers.{u8_max, u16_max}
use Rattle.la_io.specs.Limits.{is_too_long}
use Rattle.la_wire.specs.Joined.{joined_by, parted, front_word, behind_word}
use Rattle.la_wire.specs.Updates.{verb_spelling, made, op_words, own_on}
use Rattle.la_wire.specs.Readings.{◌>>=◌, number_on}
use Rattle.la_wire.specs.MessageLines.{kind_word, message_text, line_message, known_word, standing_text, standing_in}
use Rattle.la_wire.specs.Calls.{WireCall, Submit, Decide, Ask, Tick, Receive, Known}

-- ## As it is written

abbrev pub query_words : Query → List (List ℕ)
query_words query.Total = spelling keyword.Total ∷ []
query_words (query.AtLeast x) = spelling keyword.AtLeast ∷ decimal x ∷ []
query_words query.Largest = spelling keyword.Largest ∷ []
query_words (query.Has x) = spelling keyword.Has ∷ decimal x ∷ []
query_words query.Size = spelling keyword.Size ∷ []
query_words query.Items = spelling keyword.Items ∷ []

abbrev pub tick_word : List ℕ
tick_word = codes "tick"

-- the line of a call
abbrev pub call_line_text : WireCall → List ℕ
call_line_text (Submit replica object op) = joined_by 32 (spelling keyword.Submit ∷ decimal replica ∷ decimal object ∷
    op_words op)
call_line_text (Decide replica commit value) =
    joined_by 32 (spelling keyword.Decide ∷ decimal replica ∷ decimal commit ∷ decimal value ∷ [])
call_line_text (Ask replica object query) =
    joined_by 32 (spelling keyword.Ask ∷ decimal replica ∷ decimal object ∷ query_words query)
call_line_text Tick = tick_word
call_line_text (Receive message) = message_text message
call_line_text (Known standing) = standing_text standing

-- ## As it is read

-- the call that an event is
abbrev pub event_call : Event → Result WireCall LineFault
event_call (event.Submit replica object op) = Ok (Submit replica object op)
event_call (event.Deliver message) = Err BadLine
event_call (event.Decide replica commit value) = Ok (Decide replica commit value)
event_call (event.Ask replica object query) = Ok (Ask replica object query)

abbrev pub fault_of : FaultName → LineFault
fault_of script.BadNumber = BadNumber
fault_of _ = BadLine

abbrev pub script_call : Result Event FaultName → Result WireCall LineFault
script_call (Ok event) = event_call event
script_call (Err name) = Err (fault_of name)

abbrev pub script_words : List (List ℕ) → Result WireCall LineFault
script_words words = script_call (event_in words (form_of Two words))

-- a submission of an operation of one's own, by three words behind `submit` and `own`
abbrev pub own_call : (replica object text : List ℕ) → Result WireCall LineFault
own_call replica object text =
    number_on 0 u8_max replica
    >>= (λ r. number_on 0 u16_max object >>= (λ o. own_on text >>= (λ does. Ok (Submit r o does))))

-- whether a line's fourth word is `own`, and its first `submit`
abbrev pub may_be_own : List ℕ → Bool
may_be_own line =
    bytes_eq (front_word line) (spelling keyword.Submit)
    && bytes_eq (front_word (behind_word (behind_word (behind_word line)))) (verb_spelling verb.Own)

-- five words, of which the first is `submit`, and the fourth `own`
abbrev pub are_own : List (List ℕ) → Bool
are_own (first ∷ replica ∷ object ∷ word ∷ text ∷ []) =
    bytes_eq first (spelling keyword.Submit) && bytes_eq word (verb_spelling verb.Own)
are_own _ = false

abbrev pub own_words_call : List (List ℕ) → Result WireCall LineFault
own_words_call (first ∷ replica ∷ object ∷ word ∷ text ∷ []) = own_call replica object text
own_words_call _ = Err BadLine

-- what words say that are no message and not `tick`: such a submission, or else an event of a script
abbrev pub words_call : List (List ℕ) → Result WireCall LineFault
words_call words = if are_own words then own_words_call words else script_words words

-- the kind of message that a line's first word is
abbrev pub first_kind : List ℕ → Option Kind
first_kind line = kind_word (before_first (λ b. b == 32) line)

-- whether a line's first word is `known`
abbrev pub is_known : List ℕ → Bool
is_known line = bytes_eq (before_first (λ b. b == 32) line) known_word

abbrev pub known_by : List (List ℕ) → Result WireCall LineFault
known_by [] = Err BadLine
known_by (word ∷ words) = made Known (standing_in words)

-- how far a replica is, by such a line
abbrev pub known_call : List ℕ → Result WireCall LineFault
known_call line = known_by (parted 32 line)

abbrev pub call_by : Option Kind → List ℕ → Result WireCall LineFault
call_by (Some kind) line = made Receive (line_message line)
call_by None line = if is_known line then known_call line else words_call (words_of line)

-- the call that a line says, or its first fault
unfoldable pub call_of : List ℕ → Result WireCall LineFault
call_of line = if bytes_eq line tick_word then Ok Tick else call_by (first_kind line) line

-- the same, of a line that is not too long
abbrev pub bounded_call_of : List ℕ → Result WireCall LineFault
bounded_call_of line = if is_too_long line then Err TooLong else call_of line

abbrev pub said_ok : {A : Type 0} → Result A LineFault → Option A
said_ok (Ok x) = Some x
said_ok (Err fault) = None

-- the call that a line names, if it names one
abbrev pub named_call : List ℕ → Option WireCall
named_call line = said_ok (call_of line)

-- ## In a file of lines

-- no byte is 0 or a line's end
abbrev pub is_clean_byte : ℕ → Bool
is_clean_byte b = not (b == 0) && not (b == 10)

-- and it does not begin with `=`, as the line of a state, or with `~`, as a group's record
abbrev pub is_no_mark : List ℕ → Bool
is_no_mark [] = true
is_no_mark (b ∷ bytes) = not (b == 61) && not (b == 126)

abbrev pub may_stand : List ℕ → Bool
may_stand line = list_all is_clean_byte line && is_no_mark line
