-- What is known of nodes that are killed at any moment, and of those that are started again on what is left.
use Rattle.std.specs.Prelude.{◌≡◌, ◌⊎◌, ⊤, ℕ, List, [], ◌∷◌, ◌++◌, Some, drop}
use Rattle.la_object.specs.declared.kind.Kind.{Kind}
use Rattle.la_journal.specs.Giving.{GivenAt}
use Rattle.la_journal.specs.Lives.{Life, AreMadeOf}
use Rattle.la_journal.specs.Machine.{steps, LeadsToSome}
use Rattle.la_durable.specs.CallLines.{CallLine}
use Rattle.la_durable.specs.Nodes.{step}
use Rattle.la_durable.specs.Restarts.{leads_from}
use Rattle.la_serve.specs.Turns.{Turn, ServerState}
use Rattle.la_serve.specs.Serving.{AreTurns}
use Rattle.la_serve.specs.Crashes.{in_order, kept_count, Leaves, LeavesOfRun}
use Rattle.la_replica.specs.ReplicaState.{ReplicaState}

-- ## Where a killed node goes on

-- When each of these texts was given out the node was in some state. A crash at any moment from then on leaves a
-- journal that leads from there on, to where the first some of the calls lead that it kept since.
abbrev pub GoesOn : (left_since : ℕ → List ℕ → Type 0) (start : ReplicaState) (objects : List (ℕ × Kind))
    → (calls : List CallLine) → ServerState → List (List Turn) → List GivenAt → Type 0
GoesOn left_since start objects calls n [] given = ⊤
GoesOn left_since start objects calls n (group ∷ before) [] = ⊤
GoesOn left_since start objects calls n (group ∷ before) (g ∷ given) =
    ((then : ServerState) (c : List ℕ) → AreTurns objects n 1 (in_order (group ∷ before)) then
    → left_since g.moment c
    → LeadsToSome (leads_from start) step (drop (kept_count (group ∷ before)) calls) then.kept c)
    × GoesOn left_since start objects calls n before given

-- of whatever a run left, by what its clauses say of that
abbrev pub KilledNodesGoOn : {D : Type 0} (seen : D → List ℕ) (may_leave : D → List ℕ → Type 0) (moment : D → ℕ)
    (left_since : D → ℕ → List ℕ → Type 0) → Type 0
KilledNodesGoOn {D = D} seen may_leave moment left_since =
    (start : ReplicaState) (n : ServerState) (objects : List (ℕ × Kind)) (old new : D) (before after : List GivenAt)
    (turns last : List Turn) (left : Leaves seen may_leave moment left_since n.kept old new before after turns last) →
    leads_from start (seen old) ≡ Some n.kept →
    GoesOn (left_since new) start objects (left.calls ++ left.later) n left.groups left.given

-- ## Lives one after another

-- it was killed when so many of its lines had been kept and answered, and this is what the crash left
abbrev pub KilledBehind : (left_since : ℕ → List ℕ → Type 0) → List (List Turn) → List GivenAt → (answered : ℕ)
    → (c : List ℕ) → Type 0
KilledBehind left_since [] given answered c = ⊥
KilledBehind left_since (group ∷ before) [] answered c = ⊥
KilledBehind left_since (group ∷ before) (g ∷ given) answered c =
    ((answered ≡ kept_count (group ∷ before)) × left_since g.moment c) ⊎ KilledBehind left_since before given answered c

-- One life of a node: a run from this state on, which goes on or was killed. It was killed while it recovered the
-- journal, or before it gave anything out, or behind a text that it gave out.
pub record IsNodeLife {D : Type 0} (seen : D → List ℕ) (may_leave : D → List ℕ → Type 0) (moment : D → ℕ)
    (left_since : D → ℕ → List ℕ → Type 0) (fresh first : ReplicaState) (life : Life CallLine) (c : List ℕ) : Type 0
  where
    pub disk : D
    pub final : D
    pub before : List GivenAt
    pub after : List GivenAt
    pub turns : List Turn
    pub last : List Turn
    pub plays : leads_from fresh (seen disk) ≡ Some first
    pub run : LeavesOfRun seen may_leave moment left_since fresh disk final first before after turns last
    pub calls : life.calls ≡ run.left.calls ++ run.left.later
    pub killed : ((life.answered ≡ 0) × (leads_from fresh c ≡ leads_from fresh (seen disk)))
        ⊎ (((life.answered ≡ 0) × left_since final (moment run.recovered) c)
        ⊎ KilledBehind (left_since final) run.left.groups run.left.given life.answered c)

-- lives of a node one after another, the first from a state on, each started where the last one's journal led; this
-- file is what the last one left
abbrev pub AreNodeLives : {D : Type 0} (seen : D → List ℕ) (may_leave : D → List ℕ → Type 0) (moment : D → ℕ)
    (left_since : D → ℕ → List ℕ → Type 0) (fresh first : ReplicaState) → List (Life CallLine) → (file : List ℕ)
    → Type 0
AreNodeLives seen may_leave moment left_since fresh first [] file = leads_from fresh file ≡ Some first
AreNodeLives seen may_leave moment left_since fresh first (l ∷ lives) file =
    (c : List ℕ) × (next : ReplicaState)
    × IsNodeLife seen may_leave moment left_since fresh first l c
    × (leads_from fresh c ≡ Some next)
    × AreNodeLives seen may_leave moment left_since fresh next lives file

-- Then the last file leads where one list of lines leads from the first state, made of the first some of each life's,
-- with all that it answered: where a node would be that never ended and was handed these lines.
abbrev pub NodeLivesAreOneRun : {D : Type 0} (seen : D → List ℕ) (may_leave : D → List ℕ → Type 0) (moment : D → ℕ)
    (left_since : D → ℕ → List ℕ → Type 0) → Type 0
NodeLivesAreOneRun seen may_leave moment left_since =
    (fresh first : ReplicaState) (lives : List (Life CallLine)) (file : List ℕ) →
    AreNodeLives seen may_leave moment left_since fresh first lives file →
    (whole : List CallLine) × AreMadeOf lives whole × (leads_from fresh file ≡ steps step whole first)
