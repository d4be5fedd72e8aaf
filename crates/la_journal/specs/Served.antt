-- What a crash leaves of calls of which some were answered.
use Rattle.std.specs.Prelude.{◌≡◌, ℕ, ◌≤◌, List, Option, length, take}
use Rattle.la_journal.specs.Machine.{steps}

-- The file leads to where the first some of these calls lead from a state, and k of them at least: each is there
-- whole, and none is skipped.
abbrev pub LeadsToAtLeast : {S C : Type 0} (leads : List ℕ → Option S) (step : S → C → Option S)
    → (k : ℕ) → List C → S → List ℕ → Type 0
LeadsToAtLeast leads step k calls state file =
    (n : ℕ) × (k ≤ n) × (n ≤ length calls) × (leads file ≡ steps step (take n calls) state)
