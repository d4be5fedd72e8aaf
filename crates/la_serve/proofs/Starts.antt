-- What a start leads to.
use Rattle.std.proofs.Common.{◌≡◌, Bool, true, false, ℕ, zero, suc, List, [], ◌++◌, refl, sym, ap, ◌∙◌, arith, ◌⊎◌}
use Rattle.std.proofs.Common.{length, ◌≤◌, ◌<◌, Option, Some, None, option_map, Result, Ok, Err, OnOk, IfErr, inl}
use Rattle.std.proofs.Common.{inr, subst, ⊎_elim, take}
use Rattle.std.proofs.lemmas.Bool.{false≢true}
use Rattle.std.proofs.lemmas.Option.{none-some}
use Rattle.std.specs.Io.KnownBytes.{Appends}
use Rattle.la_io.specs.Streams.{AppendsPrefix}
use Rattle.la_set.specs.ObjectOps.{ObjectOp, update_of}
use Rattle.la_set.specs.Histories.{Histories, empty, object_op_number}
use Rattle.la_set.specs.Inclusion.{IsSubset}
use Rattle.la_set.proofs.lemmas.SetHistories.{history-empty}
use Rattle.la_object.specs.declared.kind.Kind.{Kind}
use Rattle.la_journal.specs.Disk.{LeavesOnly}
use Rattle.la_journal.specs.Durable.{IsSameOr, IsUntouched}
use Rattle.la_journal.specs.Playing.{rest_in, IsNotPlayed}
use Rattle.la_journal.specs.Records.{parts}
use Rattle.la_journal.specs.declared.recovery.Unplayed.{Unplayed}
use Rattle.la_journal.specs.declared.recovery.Unplayed.TheVariants as cause
use Rattle.la_durable.specs.CallLines.{CallLine, call_line}
use Rattle.la_durable.specs.Nodes.{step}
use Rattle.la_durable.specs.Heads.{node_head}
use Rattle.la_durable.specs.NodeStates.{named_node}
use Rattle.la_durable.specs.Errors.{IsForMemory}
use Rattle.la_durable.specs.declared.error.NodeError.{NodeError}
use Rattle.la_durable.specs.declared.error.NodeError.TheVariants as node
use Rattle.la_serve.specs.Faults.{of_journal, start_fault, IfDisk}
use Rattle.la_journal.specs.Journal.{lines}
use Rattle.la_durable.specs.Restarts.{leads_from}
use Rattle.la_io.specs.Streams.{TellsAll}
use Rattle.la_io.proofs.lemmas.TellingOn.{tells_on}
use Rattle.la_serve.specs.declared.error.NodeFault.{NodeFault}
use Rattle.la_serve.specs.declared.error.NodeFault.TheVariants as fault
use Rattle.la_serve.specs.declared.options.Options.{Options}
use Rattle.la_serve.specs.Turns.{ServerState}
use Rattle.la_node.specs.declared.link.Links.{Links}
use Rattle.la_node.specs.Links.{links_over}
use Rattle.la_replica.specs.Progress.{progress_of}
use Rattle.la_serve.specs.Io.{Io, Streams, Facts, io_with}
use Rattle.la_serve.specs.Turns.{Turn}
use Rattle.la_serve.specs.Serving.{ServesAll, ServesSome, ServesClosed, IsServeRefusal}
use Rattle.la_serve.specs.Crashes.{Leaves, LeftBy, at_start}
use Rattle.la_serve.specs.Starting.{RunsAll, RunsCut, RunsNot, IsServerStartRefusal, TellsOfRun, torn_told, unsaid_told}
use Rattle.la_serve.specs.Starting.{Begins, IsNotBegun}
use Rattle.la_journal.specs.Machine.{LeadsToSome, steps}
use Rattle.la_replica.specs.ReplicaState.{ReplicaState}

-- nothing lies in every set
pub nothing_within : (s : Histories) → IsSubset empty s
nothing_within s u is =
    absurd
    (none-some u (sym (ap (λ (ds : List ObjectOp). option_map (update_of u.id.replica u.id.number) (object_op_number
    ds u.id.number)) (history-empty u.id.replica)
    ∙ ap (option_map (update_of u.id.replica u.id.number)) (nothing_at u.id.number)) ∙ is))
  where
    nothing_at : (k : ℕ) → object_op_number [] k ≡ None
    nothing_at zero = refl
    nothing_at (suc k) = refl

-- ## What a crash leaves, in other words, with what was told before

module _ (Told Told2 : List (List ℕ) → Type 0) (told : (ts : List (List ℕ)) → Told ts → Told2 ts) (Left Left2 : (turns last : List Turn) → Type 0)
    (to : (turns last : List Turn) → Left turns last → Left2 turns last) (before after : Io)
    (objects : List (ℕ × Kind)) where
  abbrev till : Io
  till = record after { objects = objects }

  pub serves_to : ServesAll Told Left before after → ServesAll Told2 Left2 before till
  serves_to s = record {
    turns = s.turns;
    rest = s.rest;
    are = s.are;
    read = s.read;
    wrote = s.wrote;
    journal = s.journal;
    tells = told _ s.tells;
    left = to s.turns [] s.left;
  }

  some_to : (Wrote : (before after : Option (List ℕ)) → List ℕ → Type 0) → ServesSome Told Left Wrote before after
      → ServesSome Told2 Left2 Wrote before till
  some_to Wrote s = record {
    turns = s.turns;
    are = s.are;
    read = s.read;
    wrote = s.wrote;
    journal = s.journal;
    rest = s.rest;
    tells = told _ s.tells;
    left = to s.turns [] s.left;
  }

  closed_to : ServesClosed Told Left before after → ServesClosed Told2 Left2 before till
  closed_to s = record {
    turns = s.turns;
    last = s.last;
    now = s.now;
    are = s.are;
    read = s.read;
    wrote = s.wrote;
    rest = s.rest;
    tells = told _ s.tells;
    left = to s.turns s.last s.left;
  }

  pub refusal_to : (f : NodeFault) → IsServeRefusal Told Left before after f → IsServeRefusal Told2 Left2 before till f
  refusal_to fault.DiskFault s = closed_to s
  refusal_to fault.ReadFault s = some_to Appends s
  refusal_to fault.WriteFault s = some_to AppendsPrefix s
  refusal_to fault.Memory s = some_to AppendsPrefix s
  refusal_to fault.BadConfig s = s
  refusal_to fault.NoJournal s = s
  refusal_to fault.JournalThere s = s
  refusal_to fault.Locked s = s
  refusal_to (fault.BadJournal line) s = s
  refusal_to (fault.OtherOptions option) s = s
  refusal_to (fault.StartFault found) s = s

-- ## A run, by what was served behind its recovery

abbrev stands_on : ReplicaState → Links → ServerState
stands_on kept known = record { kept = kept; known = known }

module _ {D R W E : Type 0} (f : Facts D R W E) (objects objects2 : List (ℕ × Kind)) (options : Options)
    (disk recovered final : D) (old new : Streams R W E) (between : E) (before : ReplicaState) (now : ServerState)
    (known : Links) (nothing : known ≡ links_over (progress_of before))
    (begun : Begins options (f.seen disk) before (lines (f.seen recovered)))
    (leads : leads_from (at_start options.config options.own) (f.seen recovered) ≡ Some before)
    (recovery : LeavesOnly f.moment f.left_since disk recovered (IsSameOr (f.may_leave disk)
    (leads_from (at_start options.config options.own)) (f.seen disk)))
    (first : E)
    (told_first : TellsAll f.heard f.refuses old.errors first (torn_told (length (rest_in (parts (f.seen disk))))))
    (told_then : TellsAll f.heard f.refuses first between (unsaid_told begun.unsaid))
  where
    abbrev Told : List (List ℕ) → Type 0
    Told = TellsAll f.heard f.refuses between new.errors

    abbrev ToldInAll : List (List ℕ) → Type 0
    ToldInAll = TellsOfRun f disk begun.unsaid old new

    behind_first : (ls : List (List ℕ)) → Told ls → ToldInAll ls
    behind_first ls told =
        tells_on f.heard f.refuses old.errors first new.errors (torn_told (length (rest_in (parts (f.seen disk)))))
        (unsaid_told begun.unsaid ++ ls) told_first
        (tells_on f.heard f.refuses first between new.errors (unsaid_told begun.unsaid) ls told_then told)

    abbrev Here : (turns last : List Turn) → Type 0
    Here = Leaves f.seen f.may_leave f.moment f.left_since before recovered final old.given new.given

    abbrev at_first : Io
    at_first = io_with f old objects (stands_on before known) (lines (f.seen recovered))

    abbrev at_last : Io
    at_last = io_with f new objects2 now (lines (f.seen final))

    -- with the objects that the shelf had
    abbrev at_end : Io
    at_end = io_with f new objects now (lines (f.seen final))

    abbrev There : (turns last : List Turn) → Type 0
    There = LeftBy f options disk final before old.given new.given

    of_run : (turns last : List Turn) → Here turns last → There turns last
    of_run turns last left =
        record { recovered = recovered; recovery = recovery; leads = leads; left = left }

    pub runs : {T : Type 0} (r : Result T NodeFault) → OnOk r (ServesAll Told Here at_first at_last)
        → OnOk r (RunsAll f objects options disk final old new)
    runs (Ok x) s = record {
      before = before;
      begins = lines (f.seen recovered);
      begun = begun;
      journal = lines (f.seen final);
      now = now;
      serves =
          subst
          (λ k. ServesAll ToldInAll There
          (io_with f old objects (stands_on before k) (lines (f.seen recovered))) at_end) nothing
          (serves_to Told ToldInAll behind_first Here There of_run at_first at_last objects s);
    }
    runs (Err e) s = tt

    cut : (why : NodeFault) → IsServeRefusal Told Here at_first at_last why
        → RunsCut f objects options disk final old new why
    cut why s = record {
      before = before;
      begins = lines (f.seen recovered);
      begun = begun;
      journal = lines (f.seen final);
      now = now;
      stops =
          subst
          (λ k. IsServeRefusal ToldInAll There
          (io_with f old objects (stands_on before k) (lines (f.seen recovered))) at_end why) nothing
          (refusal_to Told ToldInAll behind_first Here There of_run at_first at_last objects why s);
    }

    run_stops : (why : NodeFault) → IsServeRefusal Told Here at_first at_last why
        → IsServerStartRefusal f objects options disk final old new why
    run_stops fault.ReadFault s = cut fault.ReadFault s
    run_stops fault.WriteFault s = cut fault.WriteFault s
    run_stops fault.Memory s = inr (cut fault.Memory s)
    run_stops fault.DiskFault s = inr (cut fault.DiskFault s)
    run_stops fault.BadConfig s = absurd s
    run_stops fault.NoJournal s = absurd s
    run_stops fault.JournalThere s = absurd s
    run_stops fault.Locked s = absurd s
    run_stops (fault.BadJournal line) s = absurd s
    run_stops (fault.OtherOptions option) s = absurd s
    run_stops (fault.StartFault found) s = absurd s

    pub stops : {T : Type 0} (r : Result T NodeFault) → IfErr r (IsServeRefusal Told Here at_first at_last)
        → IfErr r (IsServerStartRefusal f objects options disk final old new)
    stops (Ok x) s = tt
    stops (Err why) s = run_stops why s

-- ## A run that did not begin

-- nothing happened to the disk
pub untouched : {D R W E : Type 0} (f : Facts D R W E) (options : Options) (disk : D) (streams : Streams R W E)
    → ((c : List ℕ) → f.left_since disk (f.moment disk) c → f.may_leave disk c)
    → RunsNot f options disk disk streams streams
untouched f options disk streams only_now = record {
  unread = refl;
  unwritten = refl;
  ungiven = refl;
  untold = refl;
  left = record {
    later = omega arith;
    each = λ c left. inl (only_now c left);
    before = λ t c le left. inl left;
  };
}

-- a refusal that is not for memory
abbrev is_memory : NodeError → Bool
is_memory node.Memory = true
is_memory _ = false

for_memory : {S : Type 0} (refusal : NodeError) (led : Option S) → (IsForMemory refusal → ⊥)
    → IsForMemory refusal ⊎ (led ≡ None) → led ≡ None
for_memory refusal led other (inl is) = absurd (other is)
for_memory refusal led other (inr none) = none

module _ {D R W E : Type 0} (f : Facts D R W E) (objects : List (ℕ × Kind)) (options : Options) (disk final : D)
    (old new : Streams R W E) (faults faults_after : ℕ) where
  abbrev fresh : ReplicaState
  fresh = at_start options.config options.own

  abbrev led : Option ReplicaState
  led = leads_from fresh (f.seen disk)

  abbrev Cause : (before after : ℕ) → Unplayed NodeError → Type 0
  Cause before after why =
      IsNotPlayed IsForMemory node_head named_node call_line step fresh before after (f.seen disk) why

  abbrev told_of : Unplayed NodeError → NodeFault
  told_of why = of_journal (node_head fresh) options.config.replicas (length (f.seen disk)) why

  -- a journal was not played: what is told says why
  module _ (not : RunsNot f options disk final old new) where
    bad : (line : ℕ) (why : Unplayed NodeError) → final ≡ disk → led ≡ None
        → Cause 0 0 why → fault.BadJournal line ≡ told_of why
        → IsServerStartRefusal f objects options disk final old new (fault.BadJournal line)
    bad line why same nowhere is told_as =
        (not, same, record { nowhere = nowhere; why = why; is = is; told_as = told_as })

    pub not_played : (why : Unplayed NodeError) → IsUntouched disk final why → Cause faults faults_after why
        → IsServerStartRefusal f objects options disk final old new (told_of why)
    not_played cause.Memory same is = inl not
    not_played cause.Disk same is = of_disk (length (f.seen disk)) refl
      where
        of_disk : (n : ℕ) → n ≡ length (f.seen disk)
            → IsServerStartRefusal f objects options disk final old new (start_fault n)
        of_disk zero is = inl not
        of_disk (suc n) is = (not, is)
    not_played cause.NoHead same is = bad 1 cause.NoHead same is.0 is refl
    not_played (cause.OtherHead place) same is =
        (not, same, record { nowhere = is.0; why = cause.OtherHead place; is = is; told_as = refl })
    not_played (cause.NoState line) same is = bad line (cause.NoState line) same is.0 is refl
    not_played (cause.NoCall line) same is = bad line (cause.NoCall line) same is.0 is refl
    not_played (cause.Misplaced line) same is = bad line (cause.Misplaced line) same is.0 is refl
    not_played (cause.Refused line node.Memory) same is = inl not
    not_played (cause.Refused line node.Elsewhere) same is =
        bad line (cause.Refused line node.Elsewhere) same (for_memory node.Elsewhere led (λ m. false≢true (ap is_memory m)) is.0) is refl
    not_played (cause.Refused line node.Unkept) same is =
        bad line (cause.Refused line node.Unkept) same (for_memory node.Unkept led (λ m. false≢true (ap is_memory m)) is.0) is refl
    not_played (cause.Refused line (node.Replica e)) same is =
        bad line (cause.Refused line (node.Replica e)) same (for_memory (node.Replica e) led (λ m. false≢true (ap is_memory m)) is.0) is refl
    not_played (cause.Refused line (node.Proposal e)) same is =
        bad line (cause.Refused line (node.Proposal e)) same (for_memory (node.Proposal e) led (λ m. false≢true (ap is_memory m)) is.0) is refl
    not_played (cause.Damaged line) same is = bad line (cause.Damaged line) same is.0 is refl

-- a disk's fault comes only where it failed
module _ (replicas found : ℕ) (head file : List ℕ) (start : ReplicaState) (before after : ℕ) where
  pub disk_failed : (why : Unplayed NodeError)
      → IsNotPlayed IsForMemory node_head named_node call_line step start before after file why
      → IfDisk (of_journal head replicas found why) (before < after)
  disk_failed cause.Memory is = tt
  disk_failed cause.Disk is = of_disk found
    where
      of_disk : (n : ℕ) → IfDisk (start_fault n) (before < after)
      of_disk zero = is
      of_disk (suc n) = is
  disk_failed cause.NoHead is = tt
  disk_failed (cause.OtherHead place) is = tt
  disk_failed (cause.NoState line) is = tt
  disk_failed (cause.NoCall line) is = tt
  disk_failed (cause.Misplaced line) is = tt
  disk_failed (cause.Refused line node.Memory) is = tt
  disk_failed (cause.Refused line node.Elsewhere) is = tt
  disk_failed (cause.Refused line node.Unkept) is = tt
  disk_failed (cause.Refused line (node.Replica e)) is = tt
  disk_failed (cause.Refused line (node.Proposal e)) is = tt
  disk_failed (cause.Damaged line) is = tt

-- of a run, by what was served behind its recovery
pub failed_later : {T : Type 0} (r : Result T NodeFault) (first between last : ℕ) → first ≤ between
    → IfErr r (λ why. IfDisk why (between < last)) → IfErr r (λ why. IfDisk why (first < last))
failed_later (Ok x) first between last le failed = tt
failed_later (Err why) first between last le failed = more why failed
  where
    more : (why : NodeFault) → IfDisk why (between < last) → IfDisk why (first < last)
    more fault.DiskFault less = omega (arith, le, less)
    more fault.ReadFault is = tt
    more fault.WriteFault is = tt
    more fault.Memory is = tt
    more fault.BadConfig is = tt
    more fault.NoJournal is = tt
    more fault.JournalThere is = tt
    more fault.Locked is = tt
    more (fault.BadJournal line) is = tt
    more (fault.OtherOptions option) is = tt
    more (fault.StartFault found) less = omega (arith, le, less)

pub err_both : {T : Type 0} (r : Result T NodeFault) (P Q : NodeFault → Type 0) → IfErr r P → IfErr r Q
    → IfErr r (λ why. P why × Q why)
err_both (Ok x) P Q p q = tt
err_both (Err why) P Q p q = (p, q)

-- ## A journal that was compacted behind its recovery

-- what a crash leaves of both is what was left before, or leads to the same
pub compacted_behind : {D : Type 0} (moment : D → ℕ) (left_since : D → ℕ → List ℕ → Type 0) (Before : List ℕ → Type 0)
    (leads : List ℕ → Option ReplicaState) (found : List ℕ) (n : ReplicaState) (disk recovered compacted : D)
    → leads found ≡ Some n
    → LeavesOnly moment left_since disk recovered (IsSameOr Before leads found)
    → LeavesOnly moment left_since recovered compacted (LeadsToSome leads step [] n)
    → LeavesOnly moment left_since disk compacted (IsSameOr Before leads found)
compacted_behind moment left_since Before leads found n disk recovered compacted plays first then = record {
  later = omega (arith, first.later, then.later);
  each = λ c left. ⊎_elim (λ was. first.each c was) (λ some. inr (same c some))
      (then.before (moment disk) c first.later left);
  before = λ t c le left.
      ⊎_elim (λ was. first.before t c le was) (λ some. inr (inr (same c some)))
      (then.before t c (omega (arith, le, first.later)) left);
}
  where
    same : (c : List ℕ) → LeadsToSome leads step [] n c → leads c ≡ leads found
    same c (k, le, is) = is ∙ ap (λ (l : List CallLine). steps step l n) (nothing_first k) ∙ sym plays
      where
        no_calls : List CallLine
        no_calls = []

        nothing_first : (k : ℕ) → take k no_calls ≡ no_calls
        nothing_first zero = refl
        nothing_first (suc k) = refl

-- why it was not compacted, as a start's refusal
pub not_compacted : {D R W E : Type 0} (f : Facts D R W E) (objects : List (ℕ × Kind)) (options : Options)
    (disk final : D) (old new : Streams R W E) (failed : Type 0) → RunsNot f options disk final old new
    → (why : NodeFault) → IsNotBegun failed why → IsServerStartRefusal f objects options disk final old new why
not_compacted f objects options disk final old new failed not fault.Memory is = inl not
not_compacted f objects options disk final old new failed not fault.DiskFault is = inl not
not_compacted f objects options disk final old new failed not fault.ReadFault is = absurd is
not_compacted f objects options disk final old new failed not fault.WriteFault is = absurd is
not_compacted f objects options disk final old new failed not fault.BadConfig is = absurd is
not_compacted f objects options disk final old new failed not fault.NoJournal is = absurd is
not_compacted f objects options disk final old new failed not fault.JournalThere is = absurd is
not_compacted f objects options disk final old new failed not fault.Locked is = absurd is
not_compacted f objects options disk final old new failed not (fault.BadJournal line) is = absurd is
not_compacted f objects options disk final old new failed not (fault.OtherOptions option) is = absurd is
not_compacted f objects options disk final old new failed not (fault.StartFault found) is = absurd is

pub compacting_failed : (before between after : ℕ) → before ≤ between → (why : NodeFault)
    → IsNotBegun (between < after) why → IfDisk why (before < after)
compacting_failed before between after le fault.Memory is = tt
compacting_failed before between after le fault.DiskFault is = omega (arith, le, is)
compacting_failed before between after le fault.ReadFault is = absurd is
compacting_failed before between after le fault.WriteFault is = absurd is
compacting_failed before between after le fault.BadConfig is = absurd is
compacting_failed before between after le fault.NoJournal is = absurd is
compacting_failed before between after le fault.JournalThere is = absurd is
compacting_failed before between after le fault.Locked is = absurd is
compacting_failed before between after le (fault.BadJournal line) is = absurd is
compacting_failed before between after le (fault.OtherOptions option) is = absurd is
compacting_failed before between after le (fault.StartFault found) is = absurd is
