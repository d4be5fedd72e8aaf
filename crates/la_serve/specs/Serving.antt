-- What lines come to, one after another.
use Rattle.std.specs.Prelude.{◌≡◌, ◌⊎◌, ℕ, ◌+◌, Bool, true, false, List, [], ◌∷◌, ◌++◌, length, Option, None, map}
use Rattle.std.specs.List.{flat_map}
use Rattle.std.specs.Io.KnownBytes.{Appends, Keeps, Consumes, IsAtEnd}
use Rattle.la_io.specs.Streams.{AppendsPrefix}
use Rattle.la_object.specs.declared.kind.Kind.{Kind}
use Rattle.la_journal.specs.declared.disk.Disk.{Ghosts}
use Rattle.la_durable.specs.Inputs.{InputState}
use Rattle.la_wire.specs.declared.error.LineFault.TheVariants.{BadLine}
use Rattle.la_wire.specs.Calls.{WireCall, called}
use Rattle.la_wire.specs.Notes.{line_fault_line}
use Rattle.la_io.specs.Sources.{IsOneLine, TakesSome}
use Rattle.la_serve.specs.Reading.{ReadsFront, ReadsAll}
use Rattle.la_io.specs.Streams.{TellsAll}
use Rattle.la_serve.specs.declared.error.NodeFault.{NodeFault}
use Rattle.la_serve.specs.declared.error.NodeFault.TheVariants as fault
use Rattle.la_serve.specs.Io.{Io, StepAt, io_in}
use Rattle.la_durable.specs.declared.error.NodeError.TheVariants.{Memory}
use Rattle.la_wire.specs.declared.questions.Question.{Question}
use Rattle.la_wire.specs.declared.questions.Take.{Take}
use Rattle.la_wire.specs.Questions.{question_in, take_in}
use Rattle.la_serve.specs.declared.asking.Asking.{Asking}
use Rattle.la_serve.specs.Asking.{heard_as}
use Rattle.la_serve.specs.Heard.{HeardLine, bare, heard_name}
use Rattle.la_serve.specs.Turns.{Turn, ServerState, IsTurn, IsHeardTurn, IsQuestionTurn, IsRequestTurn, IsTakeTurn}
use Rattle.la_serve.specs.Turns.{turn_refused}

-- these are the turns of a node from a state on, the first of which is line k's, and this is the state after them
abbrev pub AreTurns : List (ℕ × Kind) → ServerState → (k : ℕ) → List Turn → (after : ServerState) → Type 0
AreTurns objects n k [] after = after ≡ n
AreTurns objects n k (t ∷ turns) after = IsTurn objects n k t × AreTurns objects t.after (k + 1) turns after

abbrev pub turn_lines : List Turn → List (List ℕ)
turn_lines turns = map (λ (t : Turn). t.heard.line) turns

-- all that is written
abbrev pub written : List Turn → List ℕ
written turns = flat_map (λ (t : Turn). t.text) turns

-- the lines that the journal gains
abbrev pub kept_lines : List Turn → List (List ℕ)
kept_lines turns = flat_map (λ (t : Turn). t.kept) turns

-- what is told
abbrev pub turns_told : List Turn → List (List ℕ)
turns_told turns = flat_map (λ (t : Turn). t.told) turns

-- ## One of them

-- a turn of this line, from this place on
abbrev pub OfLine : (line : List ℕ) → (k : ℕ) → (before after : Io) → Turn → Type 0
OfLine line k before after t = (t.heard.line ≡ line) × IsTurn before.objects before.state k t

-- of a line that was heard so, and says a call
abbrev pub OfCall : HeardLine → InputState → (List (ℕ × Kind) → ServerState → (k : ℕ) → WireCall → Turn → Type 0)
    → (k : ℕ) → (before after : Io) → Turn → Type 0
OfCall heard input Is k before after t =
    (t.heard ≡ heard) × Is before.objects before.state k (called input.call) t

-- nothing was done, for want of memory
abbrev pub IsStarvedLine : (line : List ℕ) → (k : ℕ) → (before after : Io) → Turn → Type 0
IsStarvedLine line k before after t = t ≡ turn_refused before.state k (heard_name line) Memory

-- of a line that was heard so, whether it says a call or has a fault
abbrev pub OfHeard : HeardLine → (k : ℕ) → (before after : Io) → Turn → Type 0
OfHeard heard k before after t =
    IsHeardTurn before.objects before.state k heard t ⊎ IsStarvedLine heard.line k before after t

-- of one that is a question which no call says
abbrev pub OfQuestion : (line : List ℕ) → Question → (k : ℕ) → (before after : Io) → Turn → Type 0
OfQuestion line q k before after t =
    (t.heard.line ≡ line) × IsQuestionTurn before.objects before.state k q t

-- of one that takes an element out
abbrev pub OfTake : (line : List ℕ) → Take → (k : ℕ) → (before after : Io) → Turn → Type 0
OfTake line take k before after t =
    (t.heard.line ≡ line)
    × (IsTakeTurn before.objects before.state k take t ⊎ IsStarvedLine line k before after t)

-- of any that is no note
abbrev pub OfRequest : (line : List ℕ) → (k : ℕ) → (before after : Io) → Turn → Type 0
OfRequest line k before after t =
    (t.heard.line ≡ line)
    × (IsRequestTurn before.objects before.state k (question_in (bare line)) (take_in (bare line)) t
    ⊎ IsStarvedLine line k before after t)

-- the same, by what asks
abbrev pub OfAsked : Asking → InputState → (List (ℕ × Kind) → ServerState → (k : ℕ) → WireCall → Turn → Type 0)
    → (before after : Io) → Turn → Type 0
OfAsked a input Is before after t = OfCall (heard_as a input.line) input Is a.number before after t

abbrev pub OfHeardAs : Asking → (call : List ℕ) → (before after : Io) → Turn → Type 0
OfHeardAs a call before after t = OfHeard (heard_as a call) a.number before after t

abbrev pub OfTaking : Asking → Take → (before after : Io) → Turn → Type 0
OfTaking a take before after t = OfTake a.line.now take a.number before after t

abbrev pub OfRequested : Asking → (before after : Io) → Turn → Type 0
OfRequested a before after t = OfRequest a.line.now a.number before after t

-- a line was taken: what it comes to was written so, and is in the journal
pub record TakesBy (Wrote : (before after : Option (List ℕ)) → List ℕ → Type 0)
    (Is : (before after : Io) → Turn → Type 0)
    (Told : List (List ℕ) → Type 0) (before after : Io) : Type 0 where
  pub turn : Turn
  pub is : Is before after turn
  pub now_is : turn.after ≡ after.state
  pub wrote : Wrote before.out after.out turn.text
  pub journal : after.journal ≡ before.journal ++ turn.kept
  pub tells : Told turn.told

-- all of it was written, or only a front
abbrev pub TakesLine : (Is : (before after : Io) → Turn → Type 0) (Told : List (List ℕ) → Type 0) (before after : Io)
    → Type 0
TakesLine Is Told before after = TakesBy Appends Is Told before after

abbrev pub TakesCut : (Is : (before after : Io) → Turn → Type 0) (Told : List (List ℕ) → Type 0) (before after : Io)
    → Type 0
TakesCut Is Told before after = TakesBy AppendsPrefix Is Told before after

-- nothing was taken: all is as it was
pub record TakesNone (Told : List (List ℕ) → Type 0) (before after : Io) : Type 0 where
  pub out : Keeps before.out after.out
  pub journal : after.journal ≡ before.journal
  pub now_is : after.state ≡ before.state
  pub tells : Told []

-- where a write failed, or there was no memory, the line was taken, but only a front of what it comes to was written
abbrev pub Breaks : (Is : (before after : Io) → Turn → Type 0) (Told : List (List ℕ) → Type 0) (before after : Io)
    → NodeFault → Type 0
Breaks Is Told before after fault.WriteFault = TakesCut Is Told before after
Breaks Is Told before after fault.Memory = TakesCut Is Told before after
Breaks Is Told before after _ = ⊥

abbrev pub TellsNoLine : List (List ℕ) → Type 0
TellsNoLine turns_told = turns_told ≡ []

-- a turn, and what was read of its line
pub record IsTurnStep (k : ℕ) (before after : Io) (t : Turn) : Type 0 where
  pub is : IsTurn before.objects before.state k t
  pub one : IsOneLine t.heard.line
  pub read : Consumes before.left after.left (t.heard.line ++ 10 ∷ [])

-- what is told of bytes behind the last line's end, where there are some
abbrev pub cut_told : (k : ℕ) → (rest : List ℕ) → List (List ℕ)
cut_told k [] = []
cut_told k (b ∷ rest) = line_fault_line k BadLine None [] ∷ []

-- the input is at its end, perhaps behind bytes that no line's end follows, and nothing has changed
pub record InputEnds (k : ℕ) (Told : List (List ℕ) → Type 0) (before after : Io) : Type 0 where
  pub rest : List ℕ
  pub one : IsOneLine rest
  pub read : Consumes before.left after.left rest
  pub at_end : IsAtEnd after.left
  pub out : Keeps before.out after.out
  pub journal : after.journal ≡ before.journal
  pub now_is : after.state ≡ before.state
  pub tells : Told (cut_told k rest)

-- a turn was taken, or there was none
abbrev pub TurnSteps : (k : ℕ) (Told : List (List ℕ) → Type 0) (before after : Io) → (more : Bool) → Type 0
TurnSteps k Told before after true = TakesLine (IsTurnStep k) Told before after
TurnSteps k Told before after false = InputEnds k Told before after

-- some of a line was read; it was not taken, or of what it comes to only a front was written
abbrev pub IsStepRefusal : (k : ℕ) (Told : List (List ℕ) → Type 0) (before after : Io) → NodeFault → Type 0
IsStepRefusal k Told before after fault.ReadFault = TakesSome before.left after.left × TakesNone Told before after
IsStepRefusal k Told before after fault.WriteFault = TakesCut (IsTurnStep k) Told before after
IsStepRefusal k Told before after fault.Memory =
    (TakesSome before.left after.left × TakesNone Told before after) ⊎ TakesCut (IsTurnStep k) Told before after
IsStepRefusal k Told before after _ = ⊥

-- both of a call's values
abbrev pub StepsOn : {R E D B : Type 0} {g : Ghosts D} (remaining : R → Option (List ℕ)) (heard : E → Option (List ℕ))
    (refuses : E → List ℕ → E → Type 0) (k : ℕ) (old new : StepAt R E D B g) → (more : Bool) → Type 0
StepsOn remaining heard refuses k old new =
    TurnSteps k (TellsAll heard refuses old.errors new.errors) (io_in remaining old) (io_in remaining new)

abbrev pub StopsOn : {R E D B : Type 0} {g : Ghosts D} (remaining : R → Option (List ℕ)) (heard : E → Option (List ℕ))
    (refuses : E → List ℕ → E → Type 0) (k : ℕ) (old new : StepAt R E D B g) → NodeFault → Type 0
StopsOn remaining heard refuses k old new =
    IsStepRefusal k (TellsAll heard refuses old.errors new.errors) (io_in remaining old) (io_in remaining new)

-- what is held back was not written: where a write failed the second holds, and else the first
abbrev pub Unflushed : (Kept Cut : Type 0) → NodeFault → Type 0
Unflushed Kept Cut fault.DiskFault = Kept
Unflushed Kept Cut fault.WriteFault = Cut
Unflushed Kept Cut _ = ⊥

-- what is held back is held in memory
abbrev pub of_step : NodeFault → NodeFault
of_step fault.WriteFault = fault.Memory
of_step fault.Memory = fault.Memory
of_step fault.ReadFault = fault.ReadFault
of_step fault.BadConfig = fault.BadConfig
of_step fault.NoJournal = fault.NoJournal
of_step fault.JournalThere = fault.JournalThere
of_step fault.Locked = fault.Locked
of_step (fault.BadJournal line) = fault.BadJournal line
of_step (fault.OtherOptions option) = fault.OtherOptions option
of_step fault.DiskFault = fault.DiskFault
of_step (fault.StartFault found) = fault.StartFault found

-- ## All of them

-- all lines of an input were taken
pub record ServesAll (Told : List (List ℕ) → Type 0) (Left : (turns last : List Turn) → Type 0) (before after : Io) :
    Type 0 where
  pub turns : List Turn
  -- what is behind the last line's end
  pub rest : List ℕ
  pub are : AreTurns before.objects before.state 1 turns after.state
  pub read : ReadsAll before.left after.left (turn_lines turns) rest
  pub wrote : Appends before.out after.out (written turns)
  pub journal : after.journal ≡ before.journal ++ kept_lines turns
  pub tells : Told (turns_told turns ++ cut_told (1 + length turns) rest)
  -- what a crash leaves
  pub left : Left turns []

-- some were, and are in the journal
pub record ServesSome (Told : List (List ℕ) → Type 0) (Left : (turns last : List Turn) → Type 0)
    (Wrote : (before after : Option (List ℕ)) → List ℕ → Type 0) (before after : Io) : Type 0 where
  pub turns : List Turn
  pub are : AreTurns before.objects before.state 1 turns after.state
  pub read : ReadsFront before.left after.left (turn_lines turns)
  pub wrote : Wrote before.out after.out (written turns)
  pub journal : after.journal ≡ before.journal ++ kept_lines turns
  -- what is behind them, where the input is at its end
  pub rest : List ℕ
  pub tells : Told (turns_told turns ++ cut_told (1 + length turns) rest)
  pub left : Left turns []

-- some were, but of the last ones nothing was written, and the journal may lack them
pub record ServesClosed (Told : List (List ℕ) → Type 0) (Left : (turns last : List Turn) → Type 0) (before after : Io) :
    Type 0 where
  pub turns : List Turn
  pub last : List Turn
  pub now : ServerState
  pub are : AreTurns before.objects before.state 1 (turns ++ last) now
  pub read : ReadsFront before.left after.left (turn_lines (turns ++ last))
  pub wrote : Appends before.out after.out (written turns)
  pub rest : List ℕ
  pub tells : Told (turns_told (turns ++ last) ++ cut_told (1 + length (turns ++ last)) rest)
  pub left : Left turns last

-- Where a read failed all of these was written, and where a write did, or there was no memory, a front of it; but where
-- the disk failed nothing of the last ones.
abbrev pub IsServeRefusal : (Told : List (List ℕ) → Type 0) (Left : (turns last : List Turn) → Type 0)
    (before after : Io) → NodeFault → Type 0
IsServeRefusal Told Left before after fault.DiskFault = ServesClosed Told Left before after
IsServeRefusal Told Left before after fault.ReadFault = ServesSome Told Left Appends before after
IsServeRefusal Told Left before after fault.WriteFault = ServesSome Told Left AppendsPrefix before after
IsServeRefusal Told Left before after fault.Memory = ServesSome Told Left AppendsPrefix before after
IsServeRefusal Told Left before after _ = ⊥
