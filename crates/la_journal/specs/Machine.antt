-- What a machine comes to by calls, and by what a journal says.
use Rattle.std.specs.Prelude.{◌≡◌, if◌then◌else◌, List, [], ◌∷◌, ℕ, ◌≤◌, Bool, true, false, Option, Some, None, map, length, take}
use Rattle.la_journal.specs.Journal.{Journal, state_in, says, is_sound}

-- the input that was read is the one that the line names
abbrev pub IsNamed : {I C : Type 0} (call : I → C) → Option C → Option I → Type 0
IsNamed call named (Some input) = named ≡ Some (call input)
IsNamed call named None = named ≡ None

-- the calls of these inputs
abbrev pub calls : {I C : Type 0} (call : I → C) → List I → List C
calls call inputs = map call inputs

-- one step more, where there was a state
abbrev pub goes_on : {S C : Type 0} (step : S → C → Option S) → Option S → C → Option S
goes_on step None call = None
goes_on step (Some state) call = step state call

-- where these calls lead from a state: nowhere where one is refused
abbrev pub steps_from : {S C : Type 0} (step : S → C → Option S) → List C → Option S → Option S
steps_from step [] state = state
steps_from step (call ∷ rest) state = steps_from step rest (goes_on step state call)

abbrev pub steps : {S C : Type 0} (step : S → C → Option S) → List C → S → Option S
steps step calls state = steps_from step calls (Some state)

-- the call that a line says: none where it is a state's
abbrev pub call_unless : {C : Type 0} → Option (List ℕ) → Option C → Option C
call_unless (Some state) call = None
call_unless None call = call

abbrev pub step_named : {S C : Type 0} (step : S → C → Option S) → S → Option C → Option S
step_named step state (Some call) = step state call
step_named step state None = None

-- one line played: none where it says no call, or one that the machine refuses
abbrev pub plays_line : {S C : Type 0} (named : List ℕ → Option C) (step : S → C → Option S) → S → List ℕ → Option S
plays_line named step state line = step_named step state (call_unless (state_in line) (named line))

-- the state that a journal begins with, and else the one of a start
abbrev pub begins_with : {S : Type 0} (named_state : List ℕ → Option S) → Option (List ℕ) → S → Option S
begins_with named_state None start = Some start
begins_with named_state (Some text) start = named_state text

-- where its lines lead a machine: from the state that they begin with, by their calls
abbrev pub lines_lead : {S C : Type 0} (named_state : List ℕ → Option S) (named : List ℕ → Option C)
    (step : S → C → Option S) → S → Journal → Option S
lines_lead named_state named step start journal =
    steps_from (plays_line named step) journal.calls (begins_with named_state journal.state start)

-- where a file leads a machine, if it is sound
abbrev pub state_after : {S C : Type 0} (head : S → List ℕ) (named_state : List ℕ → Option S)
    (named : List ℕ → Option C) (step : S → C → Option S) → S → List ℕ → Option S
state_after head named_state named step start file =
    if is_sound (head start) file then lines_lead named_state named step start (says file) else None

-- the state is the one that a text says, where one was taken from it
abbrev pub IsStateTaken : {S : Type 0} → Option S → S → Bool → Type 0
IsStateTaken named state true = named ≡ Some state
IsStateTaken named state false = named ≡ None

-- The file leads to where the first some of these calls lead from a state: each is there whole, and none is
-- skipped.
abbrev pub LeadsToSome : {S C : Type 0} (leads : List ℕ → Option S) (step : S → C → Option S) → List C → S → List ℕ
    → Type 0
LeadsToSome leads step calls state file = (n : ℕ) × (n ≤ length calls) × (leads file ≡ steps step (take n calls) state)

-- the file says one state, and no call
pub record SaysState {S : Type 0} (named_state : List ℕ → Option S) (state : S) (file : List ℕ) : Type 0 where
  pub text : List ℕ
  pub names : named_state text ≡ Some state
  pub alone : says file ≡ record { state = Some text; calls = [] }
