-- A node that was started again after a crash.
use Rattle.std.specs.Prelude.{◌≡◌, ℕ, List, [], ◌∷◌, Contains, Option, Some}
use Rattle.la_journal.specs.Machine.{LeadsToSome}
use Rattle.la_journal.specs.Machine as journal
use Rattle.la_replica.specs.ReplicaState.{ReplicaState}
use Rattle.la_node.specs.Calls.{NodeCall}
use Rattle.la_node.specs.Steps.{after_call}
use Rattle.la_wire.specs.Calls.{WireCall}
use Rattle.la_wire.specs.CallLines.{named_call}
use Rattle.la_durable.specs.CallLines.{CallLine, call_line}
use Rattle.la_durable.specs.Heads.{node_head}
use Rattle.la_durable.specs.NodeStates.{named_node}
use Rattle.la_durable.specs.Nodes.{node_call, step}

-- where a journal leads a node that was this at first: nowhere, where its head is another's
abbrev pub leads_from : ReplicaState → List ℕ → Option ReplicaState
leads_from start = journal.state_after node_head named_node call_line step start

-- a line of these says this call to a replica
pub record IsCallOf (handed : List CallLine) (replica : ReplicaState) (call : NodeCall) : Type 0 where
  pub line : CallLine
  pub among : Contains handed line
  pub says : WireCall
  pub named : named_call line.line ≡ Some says
  pub is : node_call replica says ≡ Some call

-- these calls lead from one replica to another, each of which a line of these says to the replica that it comes to
abbrev pub LeadBetween : (handed : List CallLine) → List NodeCall → (before after : ReplicaState) → Type 0
LeadBetween handed [] before after = before ≡ after
LeadBetween handed (call ∷ calls) before after =
    IsCallOf handed before call
    × ((next : ReplicaState) × (after_call before call ≡ Some next) × LeadBetween handed calls next after)

-- A node's replica was this when it last gave something out. It was then handed these lines, and crashed. Started
-- again on a file that leads to where the first some of them lead, it is where calls of theirs lead, one after another.
abbrev pub RestartsTakeCalls : Type 0
RestartsTakeCalls =
    (start replica after : ReplicaState) (handed : List CallLine) (file : List ℕ) →
    LeadsToSome (leads_from start) step handed replica file →
    leads_from start file ≡ Some after →
    (calls : List NodeCall) × LeadBetween handed calls replica after
