-- A node that plays its journal and then takes lines.
use Rattle.std.specs.Prelude.{◌≡◌, ◌⊎◌, ⊤, ℕ, zero, suc, ◌/◌, nat_lt, nat_le, Bool, true, false, ◌&&◌, List, [], ◌∷◌}
use Rattle.std.specs.Prelude.{◌++◌, codes, length, ◌<◌, Option, Some, None, Result, OnOk, IfErr}
use Rattle.std.specs.Fmt.{decimal}
use Rattle.la_object.specs.declared.kind.Kind.{Kind}
use Rattle.la_object.specs.Shelves.{ShelfState}
use Rattle.la_journal.specs.Disk.{LeavesOnly}
use Rattle.la_journal.specs.Durable.{IsSameOr, IsSettled}
use Rattle.la_journal.specs.Machine.{LeadsToSome}
use Rattle.la_journal.specs.Journal.{lines, journal}
use Rattle.la_journal.specs.Playing.{rest_in, IsNotPlayed}
use Rattle.la_journal.specs.Records.{parts}
use Rattle.la_journal.specs.declared.recovery.Unplayed.{Unplayed}
use Rattle.la_node.specs.declared.error.WorldError.TheVariants as world
use Rattle.la_node.specs.Links.{links_over}
use Rattle.la_node.specs.Nodes.{IsStartRefusal}
use Rattle.la_durable.specs.CallLines.{call_line}
use Rattle.la_durable.specs.Nodes.{empty_shelf, step}
use Rattle.la_durable.specs.Restarts.{leads_from}
use Rattle.la_durable.specs.Heads.{node_head}
use Rattle.la_durable.specs.NodeStates.{named_node, is_sayable}
use Rattle.la_durable.specs.Errors.{IsForMemory}
use Rattle.la_durable.specs.declared.error.NodeError.{NodeError}
use Rattle.la_io.specs.Streams.{TellsAll}
use Rattle.la_serve.specs.declared.error.NodeFault.{NodeFault}
use Rattle.la_serve.specs.declared.error.NodeFault.TheVariants as fault
use Rattle.la_serve.specs.declared.options.Options.{Options}
use Rattle.la_serve.specs.declared.compacting.TheConstants.{KIBIBYTE}
use Rattle.la_serve.specs.Faults.{of_journal, IfDisk}
use Rattle.la_serve.specs.Io.{Streams, Facts, facts, io_with}
use Rattle.la_serve.specs.Turns.{ServerState}
use Rattle.la_serve.specs.Serving.{ServesAll, IsServeRefusal}
use Rattle.la_serve.specs.Crashes.{at_start, LeftBy}
use Rattle.la_replica.specs.Progress.{progress_of}
use Rattle.la_replica.specs.ReplicaState.{ReplicaState}

-- what is told of so many bytes that were cut, where a crash left some behind the last group
abbrev pub torn_told : (cut : ℕ) → List (List ℕ)
torn_told zero = []
torn_told (suc n) = (codes "cut " ++ (decimal (suc n) ++ 10 ∷ [])) ∷ []

-- what is told of a journal that was to be compacted, where no text says its state
abbrev pub unsaid_told : (unsaid : Bool) → List (List ℕ)
unsaid_told true = (codes "uncompacted" ++ 10 ∷ []) ∷ []
unsaid_told false = []

-- that, and then these lines, were told
abbrev pub TellsOfRun : {D R W E : Type 0} → Facts D R W E → (disk : D) → (unsaid : Bool) → (old new : Streams R W E)
    → List (List ℕ) → Type 0
TellsOfRun f disk unsaid old new lines =
    TellsAll f.heard f.refuses old.errors new.errors
    (torn_told (length (rest_in (parts (f.seen disk)))) ++ (unsaid_told unsaid ++ lines))

-- a node that was started has heard nothing of others, and believes them to be as far as it is
abbrev pub newly_started : ReplicaState → ServerState
newly_started n = record { kept = n; known = links_over (progress_of n) }

-- ## The lines from which a run goes on

-- a journal of so many bytes is compacted: the option says a size of so many kibibytes or fewer, and not 0
abbrev pub is_grown : (compact found : ℕ) → Bool
is_grown compact found = nat_lt 0 compact && nat_le compact (found / KIBIBYTE)

-- they say this state, and no call
pub record SaysAlone (n : ReplicaState) (lines : List (List ℕ)) : Type 0 where
  pub text : List ℕ
  pub names : named_node text ≡ Some n
  pub alone : journal lines ≡ record { state = Some text; calls = [] }

-- They are those that were found, also where the journal was to be compacted and no text says its state. Else they say
-- the state alone.
abbrev pub GoesOnWith : (grown unsaid : Bool) → ReplicaState → (found begins : List (List ℕ)) → Type 0
GoesOnWith false unsaid n found begins = (unsaid ≡ false) × (begins ≡ found)
GoesOnWith true true n found begins = (is_sayable n ≡ false) × (begins ≡ found)
GoesOnWith true false n found begins = (is_sayable n ≡ true) × SaysAlone n begins

-- a journal was to be compacted, and is as it was, or leads to the same: memory ran out, or the disk failed
abbrev pub IsNotBegun : (failed : Type 0) → NodeFault → Type 0
IsNotBegun failed fault.Memory = ⊤
IsNotBegun failed fault.DiskFault = failed
IsNotBegun failed _ = ⊥

-- wherever the journal of the one disk led to this state, all that a crash leaves from there to the other does
abbrev pub LeavesAlike : {D : Type 0} (seen : D → List ℕ) (moment : D → ℕ) (left_since : D → ℕ → List ℕ → Type 0)
    → ReplicaState → (old new : D) → Type 0
LeavesAlike seen moment left_since n old new =
    (start : ReplicaState) → leads_from start (seen old) ≡ Some n →
    LeavesOnly moment left_since old new (LeadsToSome (leads_from start) step [] n)

-- a journal that was compacted where it had grown: it is open, and leads to the same state
pub record Compacts {D : Type 0} (seen : D → List ℕ) (may_leave : D → List ℕ → Type 0) (grown unsaid : Bool)
    (n : ReplicaState) (old new : D) (closed : Bool) : Type 0 where
  pub goes_on : GoesOnWith grown unsaid n (lines (seen old)) (lines (seen new))
  pub unclosed : closed ≡ false
  pub settled : IsSettled seen may_leave new
  pub leads : (start : ReplicaState) → leads_from start (seen old) ≡ Some n → leads_from start (seen new) ≡ Some n

-- what a run began with: where the journal leads, and the lines from which it goes on
pub record Begins (options : Options) (found : List ℕ) (before : ReplicaState) (begins : List (List ℕ)) : Type 0 where
  pub plays : leads_from (at_start options.config options.own) found ≡ Some before
  pub unsaid : Bool
  pub goes_on : GoesOnWith (is_grown options.compact (length found)) unsaid before (lines found) begins

-- where the journal leads the lines of an input were taken, all of them
pub record RunsAll {D R W E : Type 0} (f : Facts D R W E) (objects : List (ℕ × Kind)) (options : Options)
    (disk final : D) (old new : Streams R W E) : Type 0 where
  pub before : ReplicaState
  pub begins : List (List ℕ)
  pub begun : Begins options (f.seen disk) before begins
  pub journal : List (List ℕ)
  pub now : ServerState
  pub serves : ServesAll (TellsOfRun f disk begun.unsaid old new)
      (LeftBy f options disk final before old.given new.given)
      (io_with f old objects (newly_started before) begins) (io_with f new objects now journal)

-- or some of them
pub record RunsCut {D R W E : Type 0} (f : Facts D R W E) (objects : List (ℕ × Kind)) (options : Options)
    (disk final : D) (old new : Streams R W E) (why : NodeFault) : Type 0 where
  pub before : ReplicaState
  pub begins : List (List ℕ)
  pub begun : Begins options (f.seen disk) before begins
  pub journal : List (List ℕ)
  pub now : ServerState
  pub stops : IsServeRefusal (TellsOfRun f disk begun.unsaid old new)
      (LeftBy f options disk final before old.given new.given)
      (io_with f old objects (newly_started before) begins) (io_with f new objects now journal) why

-- nothing was read, written or told, and a crash leaves what might have been left before, or what leads to the same
pub record RunsNot {D R W E : Type 0} (f : Facts D R W E) (options : Options) (disk final : D) (old new : Streams R W
    E) : Type 0 where
  pub unread : f.remaining new.input ≡ f.remaining old.input
  pub unwritten : f.contents new.output ≡ f.contents old.output
  pub ungiven : new.given ≡ old.given
  pub untold : TellsAll f.heard f.refuses old.errors new.errors []
  pub left : LeavesOnly f.moment f.left_since disk final (IsSameOr (f.may_leave disk) (leads_from (at_start
      options.config options.own)) (f.seen disk))

-- The journal leads nowhere: it is another node's or damaged, or has a line that is no call, or is refused. Why it was
-- not played says as what that is told.
pub record IsUnplayable (options : Options) (file : List ℕ) (told : NodeFault) : Type 0 where
  pub nowhere : leads_from (at_start options.config options.own) file ≡ None
  pub why : Unplayed NodeError
  pub is : IsNotPlayed IsForMemory node_head named_node call_line step (at_start options.config options.own) 0 0 file
      why
  pub told_as : told ≡ of_journal (node_head (at_start options.config options.own)) options.config.replicas (length file)
      why

abbrev pub IsServerStartRefusal : {D R W E : Type 0} → Facts D R W E → (objects : List (ℕ × Kind)) → Options
    → (disk final : D)
    → (old new : Streams R W E) → NodeFault → Type 0
IsServerStartRefusal f objects options disk final old new fault.BadConfig =
    RunsNot f options disk final old new × (IsStartRefusal options.config options.own empty_shelf world.BadConfig
    ⊎ IsStartRefusal options.config options.own empty_shelf world.NoSuchReplica)
IsServerStartRefusal f objects options disk final old new (fault.BadJournal line) =
    RunsNot f options disk final old new × (final ≡ disk) × IsUnplayable options (f.seen disk) (fault.BadJournal line)
IsServerStartRefusal f objects options disk final old new (fault.OtherOptions option) =
    RunsNot f options disk final old new × (final ≡ disk)
    × IsUnplayable options (f.seen disk) (fault.OtherOptions option)
IsServerStartRefusal f objects options disk final old new (fault.StartFault found) =
    RunsNot f options disk final old new × (found ≡ length (f.seen disk))
-- its disk is open, and its journal there
IsServerStartRefusal f objects options disk final old new fault.Locked = ⊥
IsServerStartRefusal f objects options disk final old new fault.NoJournal = ⊥
IsServerStartRefusal f objects options disk final old new fault.JournalThere = ⊥
IsServerStartRefusal f objects options disk final old new fault.ReadFault =
    RunsCut f objects options disk final old new fault.ReadFault
IsServerStartRefusal f objects options disk final old new fault.WriteFault =
    RunsCut f objects options disk final old new fault.WriteFault
IsServerStartRefusal f objects options disk final old new why =
    RunsNot f options disk final old new ⊎ RunsCut f objects options disk final old new why

-- ## By what the traits state

-- it took all lines, or stopped for a cause
abbrev pub Starts : {D R W E T : Type 0} (seen : D → List ℕ) (may_leave : D → List ℕ → Type 0) (moment : D → ℕ)
    (left_since : D → ℕ → List ℕ → Type 0) (faults : D → ℕ) (remaining : R → Option (List ℕ))
    (contents : W → Option (List ℕ))
    (heard : E → Option (List ℕ)) (refuses : E → List ℕ → E → Type 0)
    → ShelfState → Options → (disk : D) → (old new : Streams R W E) → Result T NodeFault → (final : D) → Type 0
Starts seen may_leave moment left_since faults remaining contents heard refuses shelf options disk old new served final =
    let f = facts seen may_leave moment left_since remaining contents heard refuses in
    OnOk served (RunsAll f shelf.objects options disk final old new)
    × IfErr served (λ why.
    IsServerStartRefusal f shelf.objects options disk final old new why × IfDisk why (faults disk < faults final))
