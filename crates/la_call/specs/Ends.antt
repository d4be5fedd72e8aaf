-- How a call ends, and what is printed and told of that.
use Rattle.std.specs.Prelude.{◌≡◌, ◌⊎◌, ℕ, List, [], ◌∷◌, ◌++◌, codes, Option, Some, None, option_map, if◌then◌else◌}
use Rattle.std.specs.Prelude.{string_bytes}
use Rattle.std.specs.Io.KnownBytes.{Appends, prepend_known}
use Rattle.la_io.specs.Streams.{AppendsPrefix, TellsLine}
use Rattle.la_call.specs.declared.options.CallOptions.{CallOptions}
use Rattle.la_call.specs.declared.error.CallFault.{CallFault}
use Rattle.la_call.specs.declared.error.CallFault.TheVariants.{ReadFault, WriteFault, Memory, BadConfig, NoAnswer}
use Rattle.la_call.specs.Names.{name_by}
use Rattle.la_call.specs.Words.{is_refusal}
use Rattle.la_call.specs.Calls.{CallPlan, plan_by, IsAnswered, IsUnanswered, Standing, standing}

-- ## Faults

-- the exit status
abbrev pub call_status : CallFault → ℕ
call_status BadConfig = 2
call_status Memory = 3
call_status ReadFault = 4
call_status WriteFault = 4
call_status NoAnswer = 6

abbrev pub call_name : CallFault → List ℕ
call_name ReadFault = codes "ReadFault"
call_name WriteFault = codes "WriteFault"
call_name Memory = codes "Memory"
call_name BadConfig = codes "BadConfig"
call_name NoAnswer = codes "NoAnswer"

-- behind a fault's name, which file it is of
abbrev pub of_file : Option (List ℕ) → List ℕ
of_file None = 10 ∷ []
of_file (Some path) = codes ": " ++ (path ++ 10 ∷ [])

-- the line that tells it
abbrev pub call_fault_line : CallFault → (path : Option (List ℕ)) → List ℕ
call_fault_line f path = codes "lattice call: " ++ (call_name f ++ of_file path)

-- it is told, or a front of it, and then the rest was refused; without the file, where there is no memory for that
abbrev pub TellsCallFault : {E : Type 0} (contents : E → Option (List ℕ)) (refuses : E → List ℕ → E → Type 0)
    → (old new : E) → CallFault → (path : Option (List ℕ)) → Type 0
TellsCallFault contents refuses old new f path =
    TellsLine contents refuses old new (call_fault_line f path)
    ⊎ TellsLine contents refuses old new (call_fault_line f None)

-- the file that failed, where it is no standard stream
abbrev pub path_of : CallOptions → CallFault → Option (List ℕ)
path_of options ReadFault = option_map string_bytes options.input
path_of options WriteFault = option_map string_bytes options.output
path_of options _ = None

-- ## Ends

-- what is left of the input, what the output and the answers have, and what faults are told to
pub record CallStreams (E : Type 0) : Type 0 where
  pub left : Option (List ℕ)
  pub out : Option (List ℕ)
  pub answers : Option (List ℕ)
  pub errors : E

abbrev pub call_streams : {E : Type 0} → (left out answers : Option (List ℕ)) → E → CallStreams E
call_streams left out answers errors = record { left = left; out = out; answers = answers; errors = errors }

abbrev pub standing_at_start : {E : Type 0} → CallStreams E → Standing
standing_at_start s = standing s.left s.out

-- of what was read these bytes stand behind the last line that was heard
abbrev pub standing_at_end : {E : Type 0} → (unheard : List ℕ) → CallStreams E → Standing
standing_at_end unheard s = standing (prepend_known unheard s.left) s.out

-- the status behind an answer
abbrev pub answer_status : (line : List ℕ) → ℕ
answer_status line = if is_refusal line then 1 else 0

-- it is printed, and its end
pub record IsPrinted {E : Type 0} (before after : Option (List ℕ)) (old new : E) (line : List ℕ) (status : ℕ) : Type 0
  where
    pub printed : Appends before after (line ++ 10 ∷ [])
    pub silent : new ≡ old
    pub is : status ≡ answer_status line

-- or a front of that is
pub record IsUnprinted {E : Type 0} (contents : E → Option (List ℕ)) (refuses : E → List ℕ → E → Type 0)
    (before after : Option (List ℕ)) (old new : E) (line : List ℕ) (status : ℕ) : Type 0 where
  pub printed : AppendsPrefix before after (line ++ 10 ∷ [])
  pub told : TellsCallFault contents refuses old new WriteFault None
  pub is : status ≡ call_status WriteFault

abbrev pub Prints : {E : Type 0} (contents : E → Option (List ℕ)) (refuses : E → List ℕ → E → Type 0)
    → (before after : Option (List ℕ)) → (old new : E) → (line : List ℕ) → (status : ℕ) → Type 0
Prints contents refuses before after old new line status =
    IsPrinted before after old new line status ⊎ IsUnprinted contents refuses before after old new line status

-- a line answered, and it was to be printed, that alone
pub record EndsAnswered {E : Type 0} (contents : E → Option (List ℕ)) (refuses : E → List ℕ → E → Type 0) (a : CallPlan)
    (old new : CallStreams E) (status : ℕ) : Type 0 where
  pub line : List ℕ
  pub unheard : List ℕ
  pub answered : IsAnswered a (standing_at_start old) (standing_at_end unheard new) line
  pub prints : Prints contents refuses old.answers new.answers old.errors new.errors line status

-- no line answered
pub record EndsUnanswered {E : Type 0} (contents : E → Option (List ℕ)) (refuses : E → List ℕ → E → Type 0)
    (options : CallOptions) (a : CallPlan) (old new : CallStreams E) (status : ℕ) : Type 0 where
  pub fault : CallFault
  pub unheard : List ℕ
  pub unanswered : IsUnanswered a (standing_at_start old) (standing_at_end unheard new) fault
  pub unprinted : new.answers ≡ old.answers
  pub told : TellsCallFault contents refuses old.errors new.errors fault (path_of options fault)
  pub is : status ≡ call_status fault

-- there was no memory for the request: nothing was read or written
pub record EndsUnasked {E : Type 0} (contents : E → Option (List ℕ)) (refuses : E → List ℕ → E → Type 0)
    (old new : CallStreams E) (status : ℕ) : Type 0 where
  pub unread : new.left ≡ old.left
  pub unwritten : new.out ≡ old.out
  pub unprinted : new.answers ≡ old.answers
  pub told : TellsCallFault contents refuses old.errors new.errors Memory None
  pub is : status ≡ call_status Memory

-- what a call is handed
pub record Handed (R W A E : Type 0) : Type 0 where
  pub input : R
  pub output : W
  pub answers : A
  pub errors : E

abbrev pub handed : {R W A E : Type 0} → R → W → A → E → Handed R W A E
handed input output answers errors = record { input = input; output = output; answers = answers; errors = errors }

-- what these have
abbrev pub streams_of : {R W A E : Type 0} (remaining : R → Option (List ℕ)) (contents : W → Option (List ℕ))
    (printed : A → Option (List ℕ)) → Handed R W A E → CallStreams E
streams_of remaining contents printed h =
    call_streams (remaining h.input) (contents h.output) (printed h.answers) h.errors

-- one of these
abbrev pub EndsOneWay : {E : Type 0} (told : E → Option (List ℕ)) (refuses : E → List ℕ → E → Type 0) → CallOptions
    → CallPlan → (old new : CallStreams E) → (status : ℕ) → Type 0
EndsOneWay told refuses options a old new status =
    EndsAnswered told refuses a old new status
    ⊎ (EndsUnanswered told refuses options a old new status ⊎ EndsUnasked told refuses old new status)

-- a call of these options, where these bytes were drawn
abbrev pub CallEnds : {R W A E : Type 0} (remaining : R → Option (List ℕ)) (contents : W → Option (List ℕ))
    (printed : A → Option (List ℕ)) (told : E → Option (List ℕ)) (refuses : E → List ℕ → E → Type 0) → CallOptions
    → (drawn : List ℕ) → (old new : Handed R W A E) → (status : ℕ) → Type 0
CallEnds remaining contents printed told refuses options drawn old new status =
    EndsOneWay told refuses options (plan_by options (name_by options drawn))
    (streams_of remaining contents printed old) (streams_of remaining contents printed new) status
