-- Which part of a client's line is wrong: the first word that may not stand where it stands, or the line's end.
use Rattle.std.specs.Prelude.{ℕ, ◌%◌, ◌==◌, Bool, true, false, nat_le, ◌&&◌, ◌||◌, List, [], ◌∷◌, ◌++◌, length, map}
use Rattle.std.specs.Prelude.{take}
use Rattle.std.specs.Prelude.{codes}
use Rattle.std.specs.List.{list_all}
use Rattle.std.specs.Char.{is_ascii_hexdigit}
use Rattle.std.specs.Prelude.{Option, Some, None, option_map, if◌then◌else◌}
use Rattle.std.specs.Borrow.{Bor}
use Rattle.std.specs.Option.{is_some, option_and_then}
use Rattle.std.specs.Str.{bytes_eq}
use Rattle.la_script.specs.declared.forms.Keyword.TheVariants as keyword
use Rattle.la_script.specs.Forms.{spelling}
use Rattle.la_script.specs.Lines.{words_of}
use Rattle.la_script.specs.Numbers.{u8_max, u16_max, u32_max, u64_max, number}
use Rattle.la_script.specs.Tags.{tag_of}
use Rattle.la_wire.specs.declared.error.LineFault.{LineFault}
use Rattle.la_wire.specs.declared.error.LineFault.TheVariants.{TooLong}
use Rattle.la_wire.specs.declared.updates.Verb.{Verb}
use Rattle.la_wire.specs.declared.updates.Verb.TheVariants as verb
use Rattle.la_wire.specs.declared.wrongs.Wanted.{Wanted}
use Rattle.la_wire.specs.declared.wrongs.Wanted.TheVariants as wanted
use Rattle.la_wire.specs.declared.wrongs.Wrong.{Wrong}
use Rattle.la_wire.specs.declared.telling.TheConstants.{TOLD_BYTES}
use Rattle.la_wire.specs.CallLines.{tick_word}
use Rattle.la_wire.specs.Questions.{status_word, update_word, tags_word, updates_word, take_word}
use Rattle.la_wire.specs.Requests.{is_of_peer}
use Rattle.la_wire.specs.Updates.{verb_of}

-- ## What may stand behind what

abbrev pub follows : Bool → Wanted → Option Wanted
follows true next = Some next
follows false next = None

-- behind the first word
abbrev pub behind_call : List ℕ → Option Wanted
behind_call word =
    if bytes_eq word (spelling keyword.Submit) then Some wanted.Submitter else
    if bytes_eq word (spelling keyword.Ask) then Some wanted.Asked else
    if bytes_eq word (spelling keyword.Decide) then Some wanted.Decider else
    if bytes_eq word update_word then Some wanted.Holder else
    if bytes_eq word status_word then Some wanted.Stands else
    if bytes_eq word tick_word then Some wanted.End else None

-- behind what is done
abbrev pub behind_verb : Verb → Option Wanted
behind_verb verb.Inc = Some wanted.Amount
behind_verb verb.Dec = Some wanted.Amount
behind_verb verb.Raise = Some wanted.Value
behind_verb verb.Put = Some wanted.Value
behind_verb verb.Remove = Some wanted.Tag
behind_verb verb.Own = Some wanted.Own
behind_verb verb.Mark = Some wanted.End
behind_verb verb.Vote = None
behind_verb verb.Sole = None

abbrev pub behind_operation : List ℕ → Option Wanted
behind_operation word =
    if bytes_eq word take_word then Some wanted.Value else option_and_then behind_verb (verb_of word)

-- behind what is asked
abbrev pub behind_question : List ℕ → Option Wanted
behind_question word =
    if bytes_eq word (spelling keyword.Total) then Some wanted.End else
    if bytes_eq word (spelling keyword.AtLeast) then Some wanted.Value else
    if bytes_eq word (spelling keyword.Largest) then Some wanted.End else
    if bytes_eq word (spelling keyword.Has) then Some wanted.Value else
    if bytes_eq word (spelling keyword.Size) then Some wanted.End else
    if bytes_eq word (spelling keyword.Items) then Some wanted.End else
    if bytes_eq word tags_word then Some wanted.Value else
    if bytes_eq word updates_word then Some wanted.End else None

-- the bytes of an operation of one's own: none, or two hexadecimal digits for each
abbrev pub is_own_text : List ℕ → Bool
is_own_text word =
    bytes_eq word (codes "-")
    || ((nat_le 1 (length word) && nat_le (length word) 496)
    && ((length word % 2 == 0) && list_all is_ascii_hexdigit word))

-- what may stand behind a word, where it may stand itself
abbrev pub wanted_behind : Wanted → List ℕ → Option Wanted
wanted_behind wanted.Call word = behind_call word
wanted_behind wanted.Submitter word = follows (is_some (number 0 u8_max word)) wanted.Changed
wanted_behind wanted.Changed word = follows (is_some (number 0 u16_max word)) wanted.Operation
wanted_behind wanted.Operation word = behind_operation word
wanted_behind wanted.Asked word = follows (is_some (number 0 u8_max word)) wanted.Looked
wanted_behind wanted.Looked word = follows (is_some (number 0 u16_max word)) wanted.Question
wanted_behind wanted.Question word = behind_question word
wanted_behind wanted.Decider word = follows (is_some (number 0 u8_max word)) wanted.Decided
wanted_behind wanted.Decided word = follows (is_some (number 0 u8_max word)) wanted.Value
wanted_behind wanted.Holder word = follows (is_some (number 0 u8_max word)) wanted.Held
wanted_behind wanted.Held word = follows (is_some (tag_of word)) wanted.End
wanted_behind wanted.Stands word = follows (is_some (number 0 u8_max word)) wanted.End
wanted_behind wanted.Amount word = follows (is_some (number 0 u32_max word)) wanted.End
wanted_behind wanted.Value word = follows (is_some (number 0 u64_max word)) wanted.End
wanted_behind wanted.Tag word = follows (is_some (tag_of word)) wanted.Tag
wanted_behind wanted.Own word = follows (is_own_text word) wanted.End
wanted_behind wanted.End word = None

-- where a line may end
abbrev pub may_end : Wanted → Bool
may_end wanted.Tag = true
may_end wanted.End = true
may_end _ = false

-- ## The first part that is wrong

-- what was to stand there, and the word that does; none where the line ends
pub record WrongPart : Type 0 where
  pub wanted : Wanted
  pub word : Option (List ℕ)

abbrev pub wrong_view : Wrong → WrongPart
wrong_view w = record { wanted = w.wanted; word = option_map (λ (word : Bor (List ℕ)). word.now) w.word }

abbrev pub wrong_end : Wanted → Bool → Option WrongPart
wrong_end is true = None
wrong_end is false = Some (record { wanted = is; word = None })

-- where a word may not stand it is the part; else what stands behind it tells
abbrev pub wrong_unless : Wanted → (word : List ℕ) → Option Wanted → (Wanted → Option WrongPart) → Option WrongPart
wrong_unless is word None rest = Some (record { wanted = is; word = Some word })
wrong_unless is word (Some next) rest = rest next

abbrev pub wrong_in : Wanted → List (List ℕ) → Option WrongPart
wrong_in is [] = wrong_end is (may_end is)
wrong_in is (word ∷ words) = wrong_unless is word (wanted_behind is word) (λ next. wrong_in next words)

-- of a line without a name; none of another replica's, nor where each word may stand
unfoldable pub wrong_part : List ℕ → Option WrongPart
wrong_part line = if is_of_peer line then None else wrong_in wanted.Call (words_of line)

-- of a line with a fault: one that is too long is not looked at
abbrev pub wrong_of : LineFault → List ℕ → Option WrongPart
wrong_of TooLong line = None
wrong_of _ line = wrong_part line

-- ## As it is told

-- a byte that can be printed, or `?`
abbrev pub shown : ℕ → ℕ
shown b = if nat_le 33 b && nat_le b 126 then b else 63

abbrev pub is_none_text : Wanted → List ℕ
is_none_text wanted.Call = codes "is no call"
is_none_text wanted.Submitter = codes "is no replica"
is_none_text wanted.Changed = codes "is no object"
is_none_text wanted.Operation = codes "is no operation"
is_none_text wanted.Asked = codes "is no replica"
is_none_text wanted.Looked = codes "is no object"
is_none_text wanted.Question = codes "is no question"
is_none_text wanted.Decider = codes "is no replica"
is_none_text wanted.Decided = codes "is no adopt-commit object"
is_none_text wanted.Holder = codes "is no replica"
is_none_text wanted.Held = codes "is no id of an update"
is_none_text wanted.Stands = codes "is no replica"
is_none_text wanted.Amount = codes "is no number of 32 bits"
is_none_text wanted.Value = codes "is no number of 64 bits"
is_none_text wanted.Tag = codes "is no id of an update"
is_none_text wanted.Own = codes "is no hexadecimal text"
is_none_text wanted.End = codes "is a word too many"

abbrev pub part_text : Option WrongPart → List ℕ
part_text None = []
part_text (Some p) = elim p.word [
  | None ↦ codes ": the line ends too early"
  | Some word ↦ codes ": '" ++ map shown (take TOLD_BYTES word) ++ codes "' " ++ is_none_text p.wanted
]
