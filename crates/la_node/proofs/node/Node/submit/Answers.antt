use Rattle.std.proofs.Common.{◌≡◌, Some, subst}
use Rattle.la_set.specs.Counts.{zero_counts}
use Rattle.la_set.specs.Inclusion.{IsSubset}
use Rattle.la_proposer.specs.ProposerState.{op_on}
use Rattle.la_replica.specs.Whole.{whole_out}
use Rattle.la_node.specs.Calls.{Submitted}
use Rattle.la_node.specs.Steps.{node_step, given_out}
use Rattle.la_node.specs.Nodes.{NodeState, OutcomesStayIn}
use Rattle.la_node.proofs.Nodes.{update_keeps}
use Rattle.la_node.proofs.Returning.{submission_stays}
use Rattle.la_node.proofs.lemmas.Stepping.{submitted_steps}
use Rattle.la_node.proofs.node.Node.submit.Goals as goal

pub invariant_of-self-2 : goal.invariant_of-self-2
invariant_of-self-2 g c =
    let n : NodeState = record { replica = c.self.inside.replica; shelf = c.self.inside.shelf } in
    (update_keeps n (op_on c.args.object c.args.op) (whole_out c.in_ok-out.out) c.submit.new.self c.self.invariant
    c.in_ok-out.ensures.step).0

pub returns-clause-step : goal.returns-clause-step
returns-clause-step g c =
    let d = op_on c.args.object c.args.op in
    let out = c.in_ok-out.out in
    let after = c.submit.new.self in
    subst (λ (q : NodeState). node_step q.replica (Submitted d) ≡ Some (given_out out, after)) c.self.view_is
    (submitted_steps c.self.inside.replica d out after c.in_ok-out.ensures.room c.in_ok-out.ensures.spares
    c.in_ok-out.ensures.step (c.in_ok-out.ensures.told zero_counts))

pub returns-clause-grows : goal.returns-clause-grows
returns-clause-grows g c =
    let n : NodeState = record { replica = c.self.inside.replica; shelf = c.self.inside.shelf } in
    subst (λ (q : NodeState). IsSubset q.replica.view c.submit.new.self.view) c.self.view_is
    (update_keeps n (op_on c.args.object c.args.op) (whole_out c.in_ok-out.out) c.submit.new.self c.self.invariant
    c.in_ok-out.ensures.step).1

pub returns-clause-stays : goal.returns-clause-stays
returns-clause-stays g c = subst (λ (q : NodeState). OutcomesStayIn q.replica c.submit.new.self) c.self.view_is
    (submission_stays c.self.inside.replica 0 (op_on c.args.object c.args.op) (whole_out c.in_ok-out.out)
    c.submit.new.self c.in_ok-out.ensures.step)
