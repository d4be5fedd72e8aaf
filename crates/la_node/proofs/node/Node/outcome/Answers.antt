use Rattle.std.proofs.Common.{◌≡◌, None, subst}
use Rattle.la_node.specs.Nodes.{returned_by}
use Rattle.la_node.specs.Nodes.{NodeState}
use Rattle.la_node.proofs.Nodes.{none_returned}
use Rattle.la_node.proofs.node.Node.outcome.Goals as goal

pub returns-then-commit-ge-MAX_COMMITS : goal.returns-then-commit-ge-MAX_COMMITS
returns-then-commit-ge-MAX_COMMITS g c =
    subst (λ (q : NodeState). None ≡ returned_by c.args.commit q.replica) c.self.view_is
    (none_returned c.self.inside.replica c.args.commit c.self.invariant.participates c.if-commit-ge-MAX_COMMITS.true)
