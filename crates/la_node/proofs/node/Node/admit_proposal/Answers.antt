use Rattle.std.proofs.Common.{◌≤◌, length, subst, sym, ◌∙◌}
use Rattle.la_commit.specs.Instances.{first_instance}
use Rattle.la_node.specs.Nodes.{NodeState}
use Rattle.la_node.proofs.Nodes.{past_all, none_proposed}
use Rattle.la_node.proofs.node.Node.admit_proposal.Goals as goal

pub returns-then-commit-ge-MAX_COMMITS-clause-error :
    goal.returns-then-commit-ge-MAX_COMMITS-clause-error
returns-then-commit-ge-MAX_COMMITS-clause-error g c =
    subst (λ (q : NodeState). length q.replica.instances ≤ first_instance c.args.commit) c.self.view_is
    (past_all c.self.inside.replica c.args.commit c.self.invariant.participates c.if-commit-ge-MAX_COMMITS.true)

pub returns-in-None-clause-error : goal.returns-in-None-clause-error
returns-in-None-clause-error g c =
    subst (λ (q : NodeState). length q.replica.instances ≤ first_instance c.args.commit) c.self.view_is
    (none_proposed c.self.inside.replica c.first_instance-first.result c.args.commit c.first_instance-first.ensures
    (sym c.submitted.ensures ∙ c.in-None.is))
