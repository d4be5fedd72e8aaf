use Rattle.std.proofs.Common.{◌≡◌, true, subst}
use Rattle.la_node.specs.Nodes.{NodeState}
use Rattle.la_node.specs.Resuming.{are_participants}
use Rattle.la_node.proofs.Resuming.{participants-Decides}
use Rattle.la_node.proofs.node.Node.replica.Goals as goal

pub returns-clause-resumable : goal.returns-clause-resumable
returns-clause-resumable g c =
    subst (λ (n : NodeState). are_participants n.replica.instances ≡ true) c.self.view_is
    ((participants-Decides c.self.inside.replica).1 c.self.invariant.participates)
