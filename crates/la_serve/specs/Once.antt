-- Submissions under numbers, over all lines that a node takes: each counts once.
use Rattle.std.specs.Prelude.{◌≡◌, ◌⊎◌, ℕ, ◌+◌, List, [], ◌∷◌, ◌++◌, length, Some, IsTrue}
use Rattle.la_set.specs.ObjectOps.{ObjectOp}
use Rattle.la_object.specs.declared.kind.Kind.{Kind}
use Rattle.la_proposer.specs.Resuming.{may_resume}
use Rattle.la_replica.specs.Invariant.{IsOf}
use Rattle.la_replica.specs.ReplicaState.{ReplicaState, InInstance}
use Rattle.la_wire.specs.Calls.{Submit}
use Rattle.la_wire.specs.CallLines.{named_call}
use Rattle.la_wire.specs.Notes.{submitted_note}
use Rattle.la_journal.specs.Lives.{Life}
use Rattle.la_journal.specs.Machine.{steps}
use Rattle.la_durable.specs.CallLines.{CallLine}
use Rattle.la_durable.specs.Nodes.{step}
use Rattle.la_durable.specs.Restarts.{leads_from}
use Rattle.la_serve.specs.Heard.{HeardLine}
use Rattle.la_serve.specs.Lives.{AreNodeLives}
use Rattle.la_serve.specs.Numbered.{submissions_by, submission_under}
use Rattle.la_serve.specs.Turns.{ServerState, Turn, IsTurn}
use Rattle.la_serve.specs.Serving.{AreTurns}

-- its proposer of instance 0 is this replica's, and may be taken up again: so it is of every node (`nodes_may_go_on`)
abbrev pub MayGoOn : ReplicaState → Type 0
MayGoOn n = InInstance n 0 (λ x. IsOf n.votes n.own x × IsTrue (may_resume x.proposer))

-- this was submitted between the two, under this number, and nothing else
abbrev pub AddsUnder : (number : ℕ) → ObjectOp → (before after : ReplicaState) → Type 0
AddsUnder number d before after =
    (number ≡ length (submissions_by before) + 1) × (submissions_by after ≡ submissions_by before ++ d ∷ [])

-- what a line asks of a replica, as it is heard: to submit this, under this number
pub record AsksUnder (own : ℕ) (heard : HeardLine) (number : ℕ) (d : ObjectOp) : Type 0 where
  pub numbered : heard.number ≡ Some number
  pub says : named_call heard.call ≡ Some (Submit own d.object d.op)

pub record NumbersCountOnce : Type 0 where
  -- a line under a number leaves the replica as it was, or adds what it asks, where the number comes next
  pub once : (objects : List (ℕ × Kind)) (n : ServerState) (k number : ℕ) (t : Turn) →
      MayGoOn n.kept → IsTurn objects n k t → t.heard.number ≡ Some number →
      (t.after.kept ≡ n.kept)
      ⊎ ((d : ObjectOp) × AsksUnder n.kept.own t.heard number d × AddsUnder number d n.kept t.after.kept)
  -- where it is answered as submitted, what it asks stands under the number
  pub answered : (objects : List (ℕ × Kind)) (n : ServerState) (k number : ℕ) (t : Turn) (more : List ℕ) →
      MayGoOn n.kept → IsTurn objects n k t → t.heard.number ≡ Some number →
      t.text ≡ submitted_note n.kept.own number t.heard.name ++ more →
      (d : ObjectOp) × AsksUnder n.kept.own t.heard number d × (submission_under t.after.kept number ≡ Some d)
  -- and what stands under a number stands there after any lines
  pub stays : (objects : List (ℕ × Kind)) (n after : ServerState) (k number : ℕ) (turns : List Turn) (d : ObjectOp) →
      MayGoOn n.kept → AreTurns objects n k turns after →
      submission_under n.kept number ≡ Some d → submission_under after.kept number ≡ Some d
  -- which lead to a node that may go on, of the same replica
  pub goes_on : (objects : List (ℕ × Kind)) (n after : ServerState) (k : ℕ) (turns : List Turn) →
      MayGoOn n.kept → AreTurns objects n k turns after → MayGoOn after.kept × (after.kept.own ≡ n.kept.own)

-- ## Over lives

-- what stood under a number stands there, and the node may go on, as the same replica
abbrev pub StandsOn : (before after : ReplicaState) → Type 0
StandsOn before after =
    ((number : ℕ) (d : ObjectOp) → submission_under before number ≡ Some d → submission_under after number ≡ Some d)
    × MayGoOn after × (after.own ≡ before.own)

pub record NumbersCountOverLives {D : Type 0} (seen : D → List ℕ) (may_leave : D → List ℕ → Type 0) (moment : D → ℕ)
    (left_since : D → ℕ → List ℕ → Type 0) : Type 0 where
  -- So it is of a node that is started again where the last of its lives left its journal, whatever moments they ended
  -- at: no number is given to another submission, and none is forgotten.
  pub lives : (fresh first after : ReplicaState) (lives : List (Life CallLine)) (file : List ℕ) → MayGoOn first →
      AreNodeLives seen may_leave moment left_since fresh first lives file → leads_from fresh file ≡ Some after →
      StandsOn first after
  -- And of one that was killed behind a text that it gave out: from where it was then its journal leads by some calls
  -- (`KilledNodesGoOn`), and what it had answered as submitted stands there.
  pub calls : (before after : ReplicaState) (calls : List CallLine) → MayGoOn before →
      steps step calls before ≡ Some after → StandsOn before after
