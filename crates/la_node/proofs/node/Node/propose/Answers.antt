use Rattle.std.proofs.Common.{rules, ◌≡◌, false, Some, IfOk, subst, subst₂, sym}
use Rattle.la_set.specs.declared.update.Op.TheVariants.{Vote}
use Rattle.la_set.specs.Counts.{zero_counts}
use Rattle.la_commit.specs.Instances.{first_instance}
use Rattle.la_proposer.specs.ProposerState.{op_on}
use Rattle.la_replica.specs.Whole.{whole_out}
use Rattle.la_replica.specs.Bases.{AreToldFrom}
use Rattle.la_replica.specs.ReplicaState.{ReplicaState, submits, submitted_in}
use Rattle.la_node.specs.Calls.{Proposed}
use Rattle.la_node.specs.Steps.{node_step, given_out}
use Rattle.la_node.specs.Nodes.{NodeState, IsNode, OutcomesStayIn}
use Rattle.la_node.proofs.Nodes.{with_replica, proposal_keeps}
use Rattle.la_node.proofs.Returning.{submission_stays}
use Rattle.la_node.proofs.lemmas.Stepping.{proposed_steps}
use Rattle.la_node.proofs.node.Node.propose.Goals as goal
use Rattle.la_node.proofs.node.Node.propose.Goals.{in-Ok, in-Err}

pub invariant_of-self : goal.invariant_of-self
invariant_of-self g c =
    let n : NodeState = record { replica = c.self.inside.replica; shelf = c.self.inside.shelf } in
    let first =
    subst (λ (q : NodeState). submitted_in q.replica (first_instance c.args.commit) ≡ Some 0) (sym c.self.view_is)
    c.in_ok-first.ensures.first in
    elim c.match-submit.branch [
      | in-Ok w ↦ proposal_keeps n c.args.commit c.in_ok-first.first (op_on c.args.commit c.from.result) (whole_out w.in-Ok.out) c.submit.new.self c.self.invariant c.in_ok-first.ensures.instance first w.in-Ok.ensures.step
      | in-Err w ↦ subst (λ (r : ReplicaState). IsNode (with_replica n r)) (sym w.in-Err.ensures.err) c.self.invariant
    ]

pub returns-clause-stays : goal.returns-clause-stays
returns-clause-stays g c =
    let r = c.self.inside.replica in
    subst (λ (q : NodeState). OutcomesStayIn q.replica c.submit.new.self) c.self.view_is (elim c.match-submit.branch [
      | in-Ok w ↦ submission_stays r c.in_ok-first.first (op_on c.args.commit c.from.result) (whole_out w.in-Ok.out) c.submit.new.self w.in-Ok.ensures.step
      | in-Err w ↦ subst (OutcomesStayIn r) (sym w.in-Err.ensures.err) (λ k o had. had)
    ])

pub returns-clause-step : goal.returns-clause-step
returns-clause-step g c =
    let r = c.self.inside.replica in
    let k = c.args.commit in
    let value = c.args.value in
    let i = c.in_ok-first.ensures.instance in
    let after = c.submit.new.self in
    let was = c.args.self.now.replica in
    let vote : c.from.result ≡ Vote value false = search rules in
    let first =
    subst (λ (q : NodeState). submitted_in q.replica (first_instance k) ≡ Some 0) (sym c.self.view_is)
    c.in_ok-first.ensures.first in
    elim c.match-submit.branch [
      | in-Ok w ↦ subst (λ z. IfOk z (λ out. node_step was (Proposed k value) ≡ Some (given_out out, after))) (sym w.result-is) (subst (λ (q : NodeState). node_step q.replica (Proposed k value) ≡ Some (given_out w.in-Ok.out, after)) c.self.view_is (proposed_steps r k value w.in-Ok.out after first (subst₂ (λ j op. submits r j (op_on k op) ≡ Some (whole_out w.in-Ok.out, after)) i vote w.in-Ok.ensures.step) (subst (λ j. AreToldFrom after j zero_counts w.in-Ok.out.mail) i (w.in-Ok.ensures.told zero_counts))))
      | in-Err w ↦ subst (λ z. IfOk z (λ out. node_step was (Proposed k value) ≡ Some (given_out out, after))) (sym w.result-is) tt
    ]
