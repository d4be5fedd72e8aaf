use Rattle.std.proofs.Common.{◌≡◌, take, ◌++◌}
use Rattle.std.specs.Prelude.{filter_map}
use Rattle.la_world.specs.Calls.{decision_by}
use Rattle.la_node.specs.Nodes.{replicas_of}
use Rattle.la_world.proofs.reporting.add_decisions.Given as goal

abbrev pub invariant-loop-node : goal.invariant-loop-node
invariant-loop-node g l =
    l.made.items ≡ l.fn.made.items ++ filter_map (decision_by l.fn.commit) (replicas_of (take l.node-index l.node-items))
