use Rattle.std.proofs.Common.{◌≡◌, Some, slice_get, refl, subst, arith}
use Rattle.la_set.specs.Inclusion.{IsSubset}
use Rattle.la_replica.specs.Received.{received_in, StandsAt}
use Rattle.la_node.specs.Taking.{whole_done}
use Rattle.la_node.specs.Calls.{Received}
use Rattle.la_node.specs.Steps.{node_step, given_done}
use Rattle.la_node.specs.Nodes.{NodeState, OutcomesStayIn}
use Rattle.la_node.proofs.Voters.{votes_fit}
use Rattle.la_node.proofs.Nodes.{within_at, receipt_keeps}
use Rattle.la_node.proofs.Returning.{taken_stays, taken_returns, told_by}
use Rattle.la_node.proofs.lemmas.Stepping.{received_steps}
use Rattle.la_node.proofs.node.Node.receive_beyond.Goals as goal

pub take_noting-requires : goal.take_noting-requires
take_noting-requires g c =
    let r = c.self.inside.replica in
    let m = c.args.message.now in
    let lt =
    within_at (λ x. StandsAt x m) r.instances m.instance (slice_get r.instances m.instance) refl
    c.in_ok-out.ensures.takes.stands in
    record {
      prepared = c.in_ok-out.ensures.ok;
      few = omega (arith, lt, c.self.invariant.participates.few);
      vote = votes_fit r (received_in r m) c.self.invariant.participates;
    }

pub invariant_of-self-2 : goal.invariant_of-self-2
invariant_of-self-2 g c =
    let n : NodeState = record { replica = c.self.inside.replica; shelf = c.self.inside.shelf } in
    (receipt_keeps n (received_in c.self.inside.replica c.args.message.now) (whole_done c.in_ok-done.done)
    c.take_noting.new.receiver c.self.invariant c.in_ok-done.ensures.taken.step).0

pub returns-clause-grows : goal.returns-clause-grows
returns-clause-grows g c =
    let n : NodeState = record { replica = c.self.inside.replica; shelf = c.self.inside.shelf } in
    subst (λ (q : NodeState). IsSubset q.replica.view c.take_noting.new.receiver.view) c.self.view_is
    (receipt_keeps n (received_in c.self.inside.replica c.args.message.now) (whole_done c.in_ok-done.done)
    c.take_noting.new.receiver c.self.invariant c.in_ok-done.ensures.taken.step).1

pub returns-clause-stays : goal.returns-clause-stays
returns-clause-stays g c =
    subst (λ (q : NodeState). OutcomesStayIn q.replica c.take_noting.new.receiver) c.self.view_is
    (taken_stays c.self.inside.replica (received_in c.self.inside.replica c.args.message.now)
    (whole_done c.in_ok-done.done) c.take_noting.new.receiver c.self.invariant.participates
    c.in_ok-done.ensures.taken.step)

pub returns-clause-returns : goal.returns-clause-returns
returns-clause-returns g c =
    let i = c.args.message.now.instance in
    let done = c.in_ok-done.done in
    let told =
    told_by i c.own-own.result c.self.inside.replica.own _ _ done.said c.outcome_by-outcome.result
    c.outcome_by-outcome.ensures c.learnt.ensures refl c.own-own.ensures.own in
    taken_returns c.self.inside.replica (received_in c.self.inside.replica c.args.message.now) (whole_done done)
    c.take_noting.new.receiver c.outcome_by-outcome.result c.self.invariant.participates
    c.in_ok-done.ensures.taken.step
    told

pub returns-clause-step : goal.returns-clause-step
returns-clause-step g c =
    let r = c.self.inside.replica in
    let m = c.args.message.now in
    let done = c.in_ok-done.done in
    let outcome = c.outcome_by-outcome.result in
    let after = c.take_noting.new.receiver in
    let due =
    told_by m.instance c.own-own.result r.own _ _ done.said outcome
    c.outcome_by-outcome.ensures c.learnt.ensures refl c.own-own.ensures.own in
    subst (λ (q : NodeState). node_step q.replica (Received m) ≡ Some (given_done done outcome, after)) c.self.view_is
    (received_steps r m done outcome after c.in_ok-out.ensures.takes.stands c.in_ok-out.ensures.takes.receivable
    c.in_ok-out.ensures.takes.spares c.in_ok-done.ensures.taken.step due c.in_ok-done.ensures.taken.told)
