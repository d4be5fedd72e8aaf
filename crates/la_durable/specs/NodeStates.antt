-- A node's state as one text.
use Rattle.std.specs.Prelude.{◌≡◌, ℕ, Bool, false, ◌&&◌, List, Option, Some, None, option_and_then, if◌then◌else◌}
use Rattle.std.proofs.Common.{ap}
use Rattle.std.specs.List.{list_all}
use Rattle.la_replica.specs.ReplicaState.{ReplicaState}
use Rattle.la_node.specs.Resuming.{may_resume_node}
use Rattle.la_wire.specs.CallLines.{is_clean_byte}
use Rattle.la_wire.specs.SameStates.{is_same_state}
use Rattle.la_wire.specs.States.{state_text, said_state}
use Rattle.la_durable.specs.declared.machine.NodeMachine.{NodeMachine}
use Rattle.la_durable.specs.Nodes.{empty_shelf, kept_by}

-- this replica, where a node may be made of it
abbrev pub of_node : ReplicaState → Option ReplicaState
of_node r = if may_resume_node (record { replica = r; shelf = empty_shelf }) then Some r else None

-- the state of a node that a text says, if it says one
unfoldable pub named_node : List ℕ → Option ReplicaState
named_node text = option_and_then of_node (said_state text)

-- ## When a text of a state is written

abbrev pub is_read_as : Option ReplicaState → ReplicaState → Bool
is_read_as None r = false
is_read_as (Some s) r = is_same_state s r

-- its text may stand as a line, and is read back as the same
unfoldable pub is_sayable : ReplicaState → Bool
is_sayable r = list_all is_clean_byte (state_text r) && is_read_as (said_state (state_text r)) r

-- this rests on the state alone
pub sayable_by_state : (a b : NodeMachine) → kept_by a ≡ kept_by b → is_sayable (kept_by a) ≡ is_sayable (kept_by b)
sayable_by_state a b same = ap is_sayable same
