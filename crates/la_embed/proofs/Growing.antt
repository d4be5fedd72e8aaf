-- No call that a node takes makes its view smaller.
use Rattle.std.proofs.Common.{◌≡◌, Option, Some, None, option_map, option_and_then, ap}
use Rattle.std.proofs.lemmas.Option.{none-some}
use Rattle.la_set.specs.Inclusion.{IsSubset}
use Rattle.la_replica.specs.ReplicaState.{ReplicaState}
use Rattle.la_node.specs.Calls.{NodeCall}
use Rattle.la_node.specs.Steps.{Given, node_step}
use Rattle.la_node.proofs.lemmas.Stepping.{views_grow as steps_grow}
use Rattle.la_wire.specs.Calls.{WireCall}
use Rattle.la_durable.specs.Nodes.{node_call, acts}

by_node_call : (r : ReplicaState) (o : Option NodeCall) (made : Given × ReplicaState)
    → option_and_then (node_step r) o ≡ Some made → IsSubset r.view made.1.view
by_node_call r None made is = absurd (none-some made is)
by_node_call r (Some call) made is =
    steps_grow r made.1 call (ap (option_map (λ (m : Given × ReplicaState). m.1)) is)

pub acts_grow : (r : ReplicaState) (call : WireCall) (made : Given × ReplicaState) → acts r call ≡ Some made
    → IsSubset r.view made.1.view
unfolding acts
acts_grow r call made is = by_node_call r (node_call r call) made is
