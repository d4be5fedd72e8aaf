-- What is staged of a call, why an input is not staged, and why staged lines are not committed.
use Rattle.std.specs.Prelude.{◌≡◌, ◌⊎◌, ⊤, ℕ, ◌+◌, ◌<◌, Bool, true, false, not, ◌&&◌, List, [], ◌∷◌, ◌++◌, length, map}
use Rattle.std.specs.Prelude.{Option, Some, None}
use Rattle.la_journal.specs.Commits.{is_record}
use Rattle.la_journal.specs.Machine.{steps}
use Rattle.la_journal.specs.declared.staging.Unstaged.{Unstaged}
use Rattle.la_journal.specs.declared.staging.Unstaged.TheVariants.{Machine, Memory, Closed}
use Rattle.la_journal.specs.declared.staging.Uncommitted.{Uncommitted}
use Rattle.la_journal.specs.declared.staging.Uncommitted.TheVariants.{Disk, Closed as WasClosed}

-- by the machine where it has no step or no memory, for memory, or since the disk failed earlier
abbrev pub IsStageRefusal : {S R : Type 0} (lacks_memory : R → Type 0) → (closed : Bool) → Option S → Unstaged R
    → Type 0
IsStageRefusal lacks_memory closed stepped (Machine refusal) =
    (closed ≡ false) × (lacks_memory refusal ⊎ (stepped ≡ None))
IsStageRefusal lacks_memory closed stepped Memory = closed ≡ false
IsStageRefusal lacks_memory closed stepped Closed = closed ≡ true

-- where the machine refuses it, it does so for this
abbrev pub IsRefusedBy : {R : Type 0} → (refuses : R → Type 0) → Unstaged R → Type 0
IsRefusedBy refuses (Machine refusal) = refuses refusal
IsRefusedBy refuses Memory = ⊤
IsRefusedBy refuses Closed = ⊤

-- since the disk failed, from when on it is closed
abbrev pub IsNotCommitted : (before now : Bool) → (faults_before faults : ℕ) → Uncommitted → Type 0
IsNotCommitted before now faults_before faults Disk = (before ≡ false) × (now ≡ true) × (faults_before < faults)
IsNotCommitted before now faults_before faults WasClosed = (before ≡ true) × (now ≡ true)

-- What is kept of a call, be it the call or its line: nothing where it left the machine as it was.
abbrev pub kept_unless : {X : Type 0} → (still : Bool) → X → List X
kept_unless true call = []
kept_unless false call = call ∷ []

-- Calls lead to a state, and one more leads on from there: what is kept of them leads there too, and its lines are
-- those that were kept.
abbrev pub StagedCallsLead : {S C A : Type 0} (step : S → C → Option S) (answers : S → C → A) (still : A → Bool)
    (text : C → List ℕ) → Type 0
StagedCallsLead {S = S} {C = C} step answers still text =
    (first state next : S) (calls : List C) (call : C) →
    steps step calls first ≡ Some state → step state call ≡ Some next →
    let it = still (answers state call) in
    (steps step (calls ++ kept_unless it call) first ≡ Some next)
    × (map text (calls ++ kept_unless it call) ≡ map text calls ++ kept_unless it (text call))

-- no line of these begins as a record does
abbrev pub are_no_records : List (List ℕ) → Bool
are_no_records [] = true
are_no_records (line ∷ rest) = not (is_record line) && are_no_records rest

-- how many moments of the disk a commit takes: an append and a sync, however many lines are staged, and none where no
-- line is
abbrev pub moments_for : List ℕ → ℕ
moments_for [] = 0
moments_for (b ∷ text) = 2

-- the room that staged lines take with their record, at most
abbrev pub room_for : List ℕ → ℕ
room_for [] = 0
room_for (b ∷ text) = length (b ∷ text) + 57
