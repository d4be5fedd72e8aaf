-- When a machine stands on its journal, and why an input or a journal is refused.
use Rattle.std.specs.Prelude.{◌≡◌, ◌≢◌, ◌⊎◌, ⊤, ℕ, suc, ◌-◌, ◌<◌, Bool, true, false, List, [], ◌∷◌, ◌++◌, Option}
use Rattle.std.specs.Prelude.{Some, None, length, take, if◌then◌else◌, ◌==◌}
use Rattle.la_journal.specs.Disk.{Only, IsUnread}
use Rattle.la_journal.specs.Machine.{state_after}
use Rattle.la_journal.specs.Records.{Parts, parts, end_count, IsGroupDamage}
use Rattle.la_journal.specs.declared.recovery.Unplayed.{Unplayed}
use Rattle.la_journal.specs.declared.recovery.Unplayed.TheVariants.{Memory, Disk, NoHead, OtherHead, NoState, NoCall}
use Rattle.la_journal.specs.declared.recovery.Unplayed.TheVariants.{Misplaced, Refused, Damaged}
use Rattle.la_journal.specs.declared.durable.Refused.{Refused as RefusedOf}
use Rattle.la_journal.specs.declared.durable.Refused.TheVariants.{Machine, Memory as NoMemory, Disk as NotKept, Closed}
use Rattle.la_journal.specs.declared.compaction.Uncompacted.{Uncompacted}
use Rattle.la_journal.specs.declared.compaction.Uncompacted.TheVariants.{Memory as NoRoom, Unsaid, Disk as NotReplaced}
use Rattle.la_journal.specs.declared.compaction.Uncompacted.TheVariants.{Closed as WasClosed}

-- the file is a head and groups with nothing behind them, all of it on the disk
pub record IsSettled {D : Type 0} (seen : D → List ℕ) (may_leave : D → List ℕ → Type 0) (disk : D) : Type 0 where
  pub has : Parts
  pub read : parts (seen disk) ≡ Some has
  pub whole : has.rest ≡ []
  pub durable : Only (seen disk) (may_leave disk)

-- a file is a head and groups with nothing behind them
pub record EndsInGroups (file : List ℕ) : Type 0 where
  pub has : Parts
  pub read : parts file ≡ Some has
  pub whole : has.rest ≡ []

-- Bytes that a crash left behind such a file, and of which nothing is read, do not change where it leads.
abbrev pub UnreadBytesChangeNothing : {S C : Type 0} (head : S → List ℕ) (named_state : List ℕ → Option S)
    (named : List ℕ → Option C) (step : S → C → Option S) → Type 0
UnreadBytesChangeNothing {S = S} head named_state named step =
    (start : S) (file torn : List ℕ) → EndsInGroups file → IsUnread (parts file) torn →
    state_after head named_state named step start (file ++ torn) ≡ state_after head named_state named step start file

-- what is known unless the journal is closed
abbrev pub unless : (closed : Bool) → List ℕ → List ℕ
unless true known = []
unless false known = known

-- what a recovery may leave: what was left before, or a file that leads where the one leads that was found
abbrev pub IsSameOr : {S : Type 0} → (List ℕ → Type 0) → (leads : List ℕ → Option S) → (found : List ℕ) → List ℕ →
    Type 0
IsSameOr before leads found c = before c ⊎ (leads c ≡ leads found)

-- An input is refused for a cause: by the machine where it has no step or no memory; for the disk where
-- this failed; as closed where that was so before. It is closed from a failure of the disk on.
abbrev pub IsDurableRefusal : {S R : Type 0} (lacks_memory : R → Type 0) → (before now : Bool) → (faults_before faults
    : ℕ)
    → Option S → RefusedOf R → Type 0
IsDurableRefusal lacks_memory before now faults_before faults stepped (Machine refusal) =
    (before ≡ false) × (now ≡ false) × (lacks_memory refusal ⊎ (stepped ≡ None))
IsDurableRefusal lacks_memory before now faults_before faults stepped NoMemory = (before ≡ false) × (now ≡ false)
IsDurableRefusal lacks_memory before now faults_before faults stepped NotKept =
    (before ≡ false) × (now ≡ true) × (faults_before < faults)
IsDurableRefusal lacks_memory before now faults_before faults stepped Closed = (before ≡ true) × (now ≡ true)

-- A journal is not compacted for a cause, and is closed where the disk failed or it was closed before. `writes` says
-- whether a text of the machine's state is written.
abbrev pub IsNotCompacted : (before now : Bool) → (faults_before faults : ℕ) → (writes : Bool) → Uncompacted → Type 0
IsNotCompacted before now faults_before faults writes NoRoom = (before ≡ false) × (now ≡ false)
IsNotCompacted before now faults_before faults writes Unsaid = (before ≡ false) × (now ≡ false) × (writes ≡ false)
IsNotCompacted before now faults_before faults writes NotReplaced =
    (before ≡ false) × (now ≡ true) × (faults_before < faults)
IsNotCompacted before now faults_before faults writes WasClosed = (before ≡ true) × (now ≡ true)

-- how many bytes two texts begin with alike
abbrev pub alike : List ℕ → List ℕ → ℕ
alike [] ys = 0
alike (x ∷ xs) [] = 0
alike (x ∷ xs) (y ∷ ys) = if x == y then suc (alike xs ys) else 0

-- the head says another text, from this byte on
abbrev pub IsOtherHead : (head : List ℕ) → (place : ℕ) → Option Parts → Type 0
IsOtherHead head place None = ⊥
IsOtherHead head place (Some p) = (p.text ≢ head) × (place ≡ alike head p.text)

-- behind the groups stands damage, and this line is the first there
abbrev pub IsDamagedAt : (file : List ℕ) → (line : ℕ) → Option Parts → Type 0
IsDamagedAt file line None = ⊥
IsDamagedAt file line (Some p) =
    IsGroupDamage p.rest × (line ≡ suc (end_count (take (length file - length p.rest) file)))

-- A journal is not played, and leads nowhere unless for memory or the disk: it has no head, or another, or damage, or
-- playing stops at a line (`stops`, as `StopsIn` of `Playing`).
abbrev pub IsCauseOf : {S R : Type 0} (lacks_memory : R → Type 0) → (faults_before faults : ℕ) → (head file : List ℕ)
    → Option S → (stops : Unplayed R → Type 0) → Unplayed R → Type 0
IsCauseOf lacks_memory faults_before faults head file played stops Memory = ⊤
IsCauseOf lacks_memory faults_before faults head file played stops Disk = faults_before < faults
IsCauseOf lacks_memory faults_before faults head file played stops NoHead = (played ≡ None) × (parts file ≡ None)
IsCauseOf lacks_memory faults_before faults head file played stops (OtherHead place) =
    (played ≡ None) × IsOtherHead head place (parts file)
IsCauseOf lacks_memory faults_before faults head file played stops (NoState line) =
    (played ≡ None) × stops (NoState line)
IsCauseOf lacks_memory faults_before faults head file played stops (NoCall line) =
    (played ≡ None) × stops (NoCall line)
IsCauseOf lacks_memory faults_before faults head file played stops (Misplaced line) =
    (played ≡ None) × stops (Misplaced line)
IsCauseOf lacks_memory faults_before faults head file played stops (Refused line refusal) =
    (lacks_memory refusal ⊎ (played ≡ None)) × stops (Refused line refusal)
IsCauseOf lacks_memory faults_before faults head file played stops (Damaged line) =
    (played ≡ None) × IsDamagedAt file line (parts file)

-- a journal that is not played is as it was, unless the disk failed
abbrev pub IsUntouched : {D R : Type 0} → (before after : D) → Unplayed R → Type 0
IsUntouched before after Disk = ⊤
IsUntouched before after _ = after ≡ before
