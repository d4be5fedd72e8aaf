-- Processes one after another over one file.
use Rattle.std.specs.Prelude.{◌≡◌, ℕ, ◌≤◌, List, [], ◌∷◌, ◌++◌, Option, Some, length, take}
use Rattle.la_journal.specs.Machine.{steps}
use Rattle.la_journal.specs.Served.{LeadsToAtLeast}

-- one life of a process: the calls that it took or was about to take, and how many of them it had answered when it died
pub record Life (C : Type 0) : Type 0 where
  pub calls : List C
  pub answered : ℕ

-- Lives one after another, the first from a state on: of each a crash left a file that has at least what it had
-- answered, and the next one started where that leads. This file is what the last one left.
abbrev pub AreLives : {S C : Type 0} (leads : List ℕ → Option S) (step : S → C → Option S)
    → S → List (Life C) → List ℕ → Type 0
AreLives leads step first [] file = leads file ≡ Some first
AreLives {S = S} leads step first (l ∷ lives) file =
    (c : List ℕ) × (next : S)
    × LeadsToAtLeast leads step l.answered l.calls first c
    × (leads c ≡ Some next)
    × AreLives leads step next lives file

-- the calls are the first some of each life's, all that it answered among them
abbrev pub AreMadeOf : {C : Type 0} → List (Life C) → List C → Type 0
AreMadeOf [] whole = whole ≡ []
AreMadeOf {C = C} (l ∷ lives) whole =
    (n : ℕ) × (rest : List C)
    × (l.answered ≤ n)
    × (n ≤ length l.calls)
    × (whole ≡ take n l.calls ++ rest)
    × AreMadeOf lives rest

-- so the last file leads to where one list of calls leads from the first state
abbrev pub LivesAreOneRun : {S C : Type 0} (leads : List ℕ → Option S) (step : S → C → Option S) → Type 0
LivesAreOneRun {S = S} {C = C} leads step =
    (first : S) (lives : List (Life C)) (file : List ℕ) → AreLives leads step first lives file →
    (whole : List C) × AreMadeOf lives whole × (leads file ≡ steps step whole first)
