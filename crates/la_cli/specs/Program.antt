-- What the program does, by the words that call it: what is left to read and what is written, before
-- and after, what is told, and how it ends.
use Rattle.std.specs.Prelude.{◌≡◌, ◌⊎◌, ℕ, ◌<◌, Bool, true, false, List, length, Option, Result, MatchResult}
use Rattle.std.specs.Io.KnownBytes.{Appends, Keeps}
use Rattle.clap.specs.Words.{HasKind, fault_of}
use Rattle.clap.specs.declared.error.Error.{Error}
use Rattle.clap.specs.declared.error.kind.ErrorKind.{ErrorKind}
use Rattle.la_object.specs.Shelves.{ShelfState}
use Rattle.la_cli.specs.declared.error.PlayFault.{PlayFault}
use Rattle.la_cli.specs.declared.error.PlayFault.TheVariants.{Memory, WriteFault}
use Rattle.la_cli.specs.declared.call.Task.{Task}
use Rattle.la_cli.specs.declared.call.Task.TheVariants as task
use Rattle.la_cli.specs.declared.program.Ended.{Ended}
use Rattle.la_io.specs.declared.streams.WriteFailed.{WriteFailed}
use Rattle.la_io.specs.Streams.{AppendsPrefix, RefusesBytes}
use Rattle.la_cli.specs.Faults.{play_status}
use Rattle.la_cli.specs.Play.{PlaysBytes, IsPlayedRefusal, PlaysDraw, IsDrawRefusal}
use Rattle.la_cli.specs.Threads.{RunsThreads, IsThreadsRefusal}
use Rattle.la_cli.specs.Calls.{lattice, Calls, AsksForText, IsMistaken}
use Rattle.la_cli.specs.Texts.{fault_line, no_text_line}

-- what standard error did to lines: the bytes that it holds before and after, and which lines it
-- refused, after a front of them
pub record Heard : Type 1 where
  pub before : Option (List ℕ)
  pub after : Option (List ℕ)
  pub refused : List ℕ → Type 0

-- the same of a listener
abbrev pub heard :
    {W : Type 0} → (contents : W → Option (List ℕ)) → (refuses : W → List ℕ → W → Type 0) →
    (old new : W) → Heard
heard contents refuses old new = record {
  before = contents old;
  after = contents new;
  refused = RefusesBytes contents refuses old new;
}

-- the program ends with this status, and this line was told; where it says that telling failed, a
-- front of it was taken and the rest was refused
pub record TellsAndEnds (heard : Heard) (line : List ℕ) (n : ℕ) (ended : Ended) : Type 0 where
  pub status : ended.status ≡ n
  pub wrote :
      MatchResult ended.told (λ _. Appends heard.before heard.after line) (λ _. heard.refused line)

-- a fault is told, and the status is its
abbrev pub TellsFault : Heard → PlayFault → Ended → Type 0
TellsFault heard f ended = TellsAndEnds heard (fault_line f) (play_status f) ended

-- it is told that a word is no text, and the status is 2
abbrev pub TellsNoText : Heard → Ended → Type 0
TellsNoText heard ended = TellsAndEnds heard no_text_line 2 ended

-- the bytes that standard input has left, and that standard output was given
pub record Standard : Type 0 where
  pub left : Option (List ℕ)
  pub written : Option (List ℕ)

abbrev pub standard : (left written : Option (List ℕ)) → Standard
standard left written = record { left = left; written = written }

-- what was read and written: the two streams before and after
pub record Streamed : Type 0 where
  pub before : Standard
  pub after : Standard

-- the same of a reader and a writer
abbrev pub streamed :
    {R W : Type 0} → (remaining : R → Option (List ℕ)) → (contents : W → Option (List ℕ)) →
    (old new : R × W) → Streamed
streamed remaining contents old new = record {
  before = standard (remaining old.0) (contents old.1);
  after = standard (remaining new.0) (contents new.1);
}

-- nothing was read
abbrev pub Unread : Streamed → Type 0
Unread it = it.after.left ≡ it.before.left

-- nothing was written
abbrev pub Unwritten : Streamed → Type 0
Unwritten it = it.after.written ≡ it.before.written

-- ## Tasks

-- the task was done
abbrev pub IsDone : Task → (shelves : List ShelfState) → Streamed → Type 0
IsDone task.Play shelves it =
    PlaysBytes shelves it.before.left it.after.left it.before.written it.after.written
IsDone (task.Random seed replicas events) shelves it =
    Unread it × PlaysDraw shelves seed replicas events it.before.written it.after.written
IsDone (task.Threads replicas each) shelves it =
    Unread it × RunsThreads shelves replicas each true it.before.written it.after.written

-- replicas were run and that was printed, but one was stopped, or two differ
abbrev pub IsDiffering : Task → (shelves : List ShelfState) → Streamed → Type 0
IsDiffering task.Play shelves it = ⊥
IsDiffering (task.Random seed replicas events) shelves it = ⊥
IsDiffering (task.Threads replicas each) shelves it =
    Unread it × RunsThreads shelves replicas each false it.before.written it.after.written

-- one of the two
abbrev pub ComesTo : (well : Bool) → Task → (shelves : List ShelfState) → Streamed → Type 0
ComesTo true task shelves it = IsDone task shelves it
ComesTo false task shelves it = IsDiffering task shelves it

-- what stands after its refusal
abbrev pub IsTaskRefusal : Task → (shelves : List ShelfState) → Streamed → PlayFault → Type 0
IsTaskRefusal task.Play shelves it f =
    IsPlayedRefusal shelves it.before.left it.after.left it.before.written it.after.written f
IsTaskRefusal (task.Random seed replicas events) shelves it f =
    Unread it × IsDrawRefusal shelves seed replicas events it.before.written it.after.written f
IsTaskRefusal (task.Threads replicas each) shelves it f =
    Unread it × IsThreadsRefusal shelves replicas each it.before.written it.after.written f

-- ## Ends

-- a task was called for and done, and nothing was told
pub record EndsDone
    (words : List (List ℕ)) (shelves : List ShelfState) (it : Streamed) (heard : Heard)
    (ended : Ended) : Type 0 where
  pub task : Task
  pub called : Calls words task
  pub done : IsDone task shelves it
  pub silent : Keeps heard.before heard.after
  pub status : ended.status ≡ 0

-- a task was called for, and replicas differ, which was printed; nothing was told
pub record EndsDiffering
    (words : List (List ℕ)) (shelves : List ShelfState) (it : Streamed) (heard : Heard)
    (ended : Ended) : Type 0 where
  pub task : Task
  pub called : Calls words task
  pub differing : IsDiffering task shelves it
  pub silent : Keeps heard.before heard.after
  pub status : ended.status ≡ 4

-- a task was called for and refused, and the fault was told
pub record EndsRefused
    (words : List (List ℕ)) (shelves : List ShelfState) (it : Streamed) (heard : Heard)
    (ended : Ended) : Type 0 where
  pub task : Task
  pub called : Calls words task
  pub fault : PlayFault
  pub refused : IsTaskRefusal task shelves it fault
  pub tells : TellsFault heard fault ended

-- help or the version was asked for and written, and nothing was read or told
pub record EndsShown
    (found : List ErrorKind) (it : Streamed) (heard : Heard) (ended : Ended) : Type 0 where
  pub asked : AsksForText found
  pub unread : Unread it
  pub text : List ℕ
  pub some : 0 < length text
  pub wrote : Appends it.before.written it.after.written text
  pub silent : heard.after ≡ heard.before
  pub status : ended.status ≡ 0

-- it was asked for, and not all of it was written; that was told
pub record EndsUnshown
    (found : List ErrorKind) (it : Streamed) (heard : Heard) (ended : Ended) : Type 0 where
  pub asked : AsksForText found
  pub unread : Unread it
  pub text : List ℕ
  pub some : 0 < length text
  pub wrote : AppendsPrefix it.before.written it.after.written text
  pub tells : TellsFault heard WriteFault ended

-- the words are mistaken: nothing was read or written, and a text was told
pub record EndsMistaken
    (found : List ErrorKind) (it : Streamed) (heard : Heard) (ended : Ended) : Type 0 where
  pub mistaken : IsMistaken found
  pub unread : Unread it
  pub unwritten : Unwritten it
  pub text : List ℕ
  pub some : 0 < length text
  pub tells : TellsAndEnds heard text 2 ended

-- memory was refused before a task was begun: nothing was read or written
pub record EndsStarved (it : Streamed) (heard : Heard) (ended : Ended) : Type 0 where
  pub unread : Unread it
  pub unwritten : Unwritten it
  pub tells : TellsFault heard Memory ended

-- words of which this is found call for nothing to be done
abbrev pub EndsWithoutTask : (found : List ErrorKind) → Streamed → Heard → Ended → Type 0
EndsWithoutTask found it heard ended =
    EndsShown found it heard ended ⊎
    (EndsUnshown found it heard ended ⊎ (EndsMistaken found it heard ended ⊎ EndsStarved it heard ended))

-- an error of `clap` ends the program so, whatever is found in the words that has its kind, and whatever is left
-- to read
abbrev pub EndsByError : Error → (written written_after : Option (List ℕ)) → Heard → Ended → Type 0
EndsByError error written written_after heard ended =
    (found : List ErrorKind) → HasKind found error → (left : Option (List ℕ)) →
    EndsWithoutTask found (record { before = standard left written; after = standard left written_after }) heard ended

-- what came of the program
abbrev pub ProgramEnds :
    (words : List (List ℕ)) → (shelves : List ShelfState) → Streamed → Heard → Ended → Type 0
ProgramEnds words shelves it heard ended =
    EndsDone words shelves it heard ended ⊎
    (EndsDiffering words shelves it heard ended ⊎
    (EndsRefused words shelves it heard ended ⊎ EndsWithoutTask (fault_of lattice words) it heard ended))

-- what a status of 0 says: a task was done, replicas agreeing where they were run, or a text that was asked for was written whole
abbrev pub ProgramEndsWell :
    (words : List (List ℕ)) → (shelves : List ShelfState) → Streamed → Heard → Ended → Type 0
ProgramEndsWell words shelves it heard ended =
    EndsDone words shelves it heard ended ⊎ EndsShown (fault_of lattice words) it heard ended

-- how the program ended: what came of it, and what a status of 0 says
pub record IsProgramEnd
    (words : List (List ℕ)) (shelves : List ShelfState) (it : Streamed) (heard : Heard)
    (ended : Ended) : Type 0 where
  pub ends : ProgramEnds words shelves it heard ended
  pub done : ended.status ≡ 0 → ProgramEndsWell words shelves it heard ended

-- how it ended with this status, whatever standard error took of what was told
pub record IsExitStatus
    (words : List (List ℕ)) (shelves : List ShelfState) (it : Streamed) (heard : Heard)
    (status : ℕ) : Type 0 where
  pub told : Result (Unit {0}) WriteFailed
  pub ended : IsProgramEnd words shelves it heard (record { status = status; told = told })
