-- How the program ends, by what was done before.
use Rattle.std.proofs.Common.{◌≡◌, ◌≢◌, ◌∙◌, ℕ, Bool, true, false, List, inl, inr, ⊎_elim, sym}
use Rattle.std.proofs.lemmas.Bool.{false≢true}
use Rattle.clap.specs.Words.{HasKind, IsAmong, fault_of, kind_of}
use Rattle.clap.specs.declared.error.Error.{Error}
use Rattle.clap.specs.declared.error.kind.ErrorKind.{ErrorKind}
use Rattle.clap.specs.declared.error.kind.ErrorKind.TheVariants.{OutOfMemory, DisplayHelp, DisplayVersion}
use Rattle.la_object.specs.Shelves.{ShelfState}
use Rattle.la_cli.specs.Calls.{lattice, IsText, IsMistaken, AsksForText}
use Rattle.la_cli.specs.Faults.{play_status}
use Rattle.la_cli.specs.Program.{Streamed, Heard, TellsAndEnds, TellsFault, EndsWithoutTask, ProgramEndsWell, ComesTo, IsDone, IsDiffering}
use Rattle.la_cli.specs.declared.call.Task.{Task}
use Rattle.la_cli.specs.declared.error.PlayFault.{PlayFault}
use Rattle.la_cli.specs.declared.error.PlayFault.TheVariants.{Script, ReadFault, TooLong, BadConfig, WriteFault, NoThread, Memory}
use Rattle.la_cli.specs.declared.program.Ended.{Ended}

-- no fault has the status 0
pub faults_have_a_status : (f : PlayFault) → play_status f ≢ 0
faults_have_a_status (Script f) e = cc
faults_have_a_status TooLong e = cc
faults_have_a_status Memory e = cc
faults_have_a_status ReadFault e = cc
faults_have_a_status BadConfig e = cc
faults_have_a_status WriteFault e = cc
faults_have_a_status NoThread e = cc

-- a task that came to a good end was done
pub is_done : (well : Bool) (task : Task) (shelves : List ShelfState) (it : Streamed) → well ≡ true
    → ComesTo well task shelves it → IsDone task shelves it
is_done true task shelves it e done = done
is_done false task shelves it e done = absurd (false≢true e)

-- one that did not was a run of replicas that differ
pub is_differing : (well : Bool) (task : Task) (shelves : List ShelfState) (it : Streamed) → well ≡ false
    → ComesTo well task shelves it → IsDiffering task shelves it
is_differing false task shelves it e done = done
is_differing true task shelves it e done = absurd (false≢true (sym e))

-- where something is told with a status that is not 0, the status is not 0
told_status : (heard : Heard) (line : List ℕ) (n : ℕ) (ended : Ended) → TellsAndEnds heard line n ended → n ≢ 0
    → ended.status ≢ 0
told_status heard line n ended tells some zero = some (sym tells.status ∙ zero)

pub a_told_fault_is_no_good_end : (heard : Heard) (f : PlayFault) (ended : Ended) → TellsFault heard f ended
    → ended.status ≢ 0
a_told_fault_is_no_good_end heard f ended tells = told_status heard _ _ ended tells (faults_have_a_status f)

-- without a task, the status 0 is that of a text that was asked for and written
pub without_task_well : (words : List (List ℕ)) (shelves : List ShelfState) (it : Streamed) (heard : Heard)
    (ended : Ended) → EndsWithoutTask (fault_of lattice words) it heard ended → ended.status ≡ 0
    → ProgramEndsWell words shelves it heard ended
without_task_well words shelves it heard ended (inl shown) zero = inr shown
without_task_well words shelves it heard ended (inr (inl e)) zero =
    absurd (a_told_fault_is_no_good_end heard WriteFault ended e.tells zero)
without_task_well words shelves it heard ended (inr (inr (inl e))) zero =
    absurd (told_status heard e.text 2 ended e.tells (λ e. cc) zero)
without_task_well words shelves it heard ended (inr (inr (inr e))) zero =
    absurd (a_told_fault_is_no_good_end heard Memory ended e.tells zero)

-- ## Words that call for no task

-- the error's kind is one of those of the words, unless memory was refused
among : (found : List ErrorKind) (e : Error) → HasKind found e → kind_of e ≢ OutOfMemory → IsAmong (kind_of e) found
among found e (inl memory) other = absurd (other memory)
among found e (inr is) other = is

pub words_are_mistaken : (found : List ErrorKind) (e : Error) → HasKind found e → kind_of e ≢ OutOfMemory
    → kind_of e ≢ DisplayHelp → kind_of e ≢ DisplayVersion → IsMistaken found
words_are_mistaken found e has other help version = (kind_of e, among found e has other, ⊎_elim help version)

pub words_ask_for_text : (found : List ErrorKind) (e : Error) → HasKind found e → kind_of e ≢ OutOfMemory
    → IsText (kind_of e) → AsksForText found
words_ask_for_text found e has other text = (kind_of e, among found e has other, text)
