use Rattle.std.proofs.Common.{◌≡◌, Some, slice_get, refl, subst, sym, arith}
use Rattle.la_set.specs.Inclusion.{IsSubset}
use Rattle.la_replica.specs.Received.{received_in, StandsAt}
use Rattle.la_node.specs.Preparing.{FitsHere}
use Rattle.la_node.specs.Taking.{whole_done}
use Rattle.la_node.specs.Calls.{Received}
use Rattle.la_node.specs.Steps.{node_step, given_due}
use Rattle.la_node.specs.Nodes.{NodeState, OutcomesStayIn, ReturnsIn, outcome_due}
use Rattle.la_node.proofs.Voters.{votes_fit}
use Rattle.la_node.proofs.Nodes.{within_at, receipt_keeps}
use Rattle.la_node.proofs.Returning.{taken_stays, taken_returns}
use Rattle.la_node.proofs.lemmas.Stepping.{received_steps}
use Rattle.la_node.proofs.node.Node.take.Goals as goal

pub take_prepared-requires : goal.take_prepared-requires
take_prepared-requires g c =
    let r = c.self.inside.replica in
    let m = c.args.message.now in
    let here = subst (λ (q : NodeState). FitsHere q.replica m) (sym c.self.view_is) c.requires in
    let lt =
    within_at (λ x. StandsAt x m) r.instances m.instance (slice_get r.instances m.instance) refl here.stands in
    record {
      prepared = c.in-Ok.ensures.ok;
      few = omega (arith, lt, c.self.invariant.participates.few);
      vote = votes_fit r (received_in r m) c.self.invariant.participates;
    }

pub prepare_fitting-requires-clause-fits : goal.prepare_fitting-requires-clause-fits
prepare_fitting-requires-clause-fits g c =
    (subst (λ (q : NodeState). FitsHere q.replica c.args.message.now) (sym c.self.view_is) c.requires).fits

pub prepare_fitting-requires-clause-stands : goal.prepare_fitting-requires-clause-stands
prepare_fitting-requires-clause-stands g c =
    (subst (λ (q : NodeState). FitsHere q.replica c.args.message.now) (sym c.self.view_is) c.requires).stands

pub prepare_fitting-requires-clause-agrees : goal.prepare_fitting-requires-clause-agrees
prepare_fitting-requires-clause-agrees g c =
    (subst (λ (q : NodeState). FitsHere q.replica c.args.message.now) (sym c.self.view_is) c.requires).agrees

pub invariant_of-self-2 : goal.invariant_of-self-2
invariant_of-self-2 g c =
    let n : NodeState = record { replica = c.self.inside.replica; shelf = c.self.inside.shelf } in
    (receipt_keeps n (received_in c.self.inside.replica c.args.message.now) (whole_done c.in-Ok-take_prepared.taken.0)
    c.take_prepared.new.receiver c.self.invariant c.in-Ok-take_prepared.ensures.taken.step).0

pub returns-clause-grows : goal.returns-clause-grows
returns-clause-grows g c =
    let n : NodeState = record { replica = c.self.inside.replica; shelf = c.self.inside.shelf } in
    subst (λ (q : NodeState). IsSubset q.replica.view c.take_prepared.new.receiver.view) c.self.view_is
    (receipt_keeps n (received_in c.self.inside.replica c.args.message.now) (whole_done c.in-Ok-take_prepared.taken.0)
    c.take_prepared.new.receiver c.self.invariant c.in-Ok-take_prepared.ensures.taken.step).1

pub returns-clause-stays : goal.returns-clause-stays
returns-clause-stays g c =
    subst (λ (q : NodeState). OutcomesStayIn q.replica c.take_prepared.new.receiver) c.self.view_is
    (taken_stays c.self.inside.replica (received_in c.self.inside.replica c.args.message.now)
    (whole_done c.in-Ok-take_prepared.taken.0) c.take_prepared.new.receiver c.self.invariant.participates
    c.in-Ok-take_prepared.ensures.taken.step)

pub returns-clause-returns : goal.returns-clause-returns
returns-clause-returns g c =
    let i = c.args.message.now.instance in
    let said = c.in-Ok-take_prepared.taken.0.said in
    subst (λ (q : NodeState). ReturnsIn i (outcome_due i q.replica.own said) c.take_prepared.new.receiver)
    c.self.view_is
    (taken_returns c.self.inside.replica (received_in c.self.inside.replica c.args.message.now)
    (whole_done c.in-Ok-take_prepared.taken.0) c.take_prepared.new.receiver
    (outcome_due i c.self.inside.replica.own said) c.self.invariant.participates
    c.in-Ok-take_prepared.ensures.taken.step
    refl)

pub returns-clause-step : goal.returns-clause-step
returns-clause-step g c =
    let r = c.self.inside.replica in
    let m = c.args.message.now in
    let done = c.in-Ok-take_prepared.taken.0 in
    let after = c.take_prepared.new.receiver in
    let here = subst (λ (q : NodeState). FitsHere q.replica m) (sym c.self.view_is) c.requires in
    subst (λ (q : NodeState). node_step q.replica (Received m) ≡ Some (given_due q.replica m done, after))
    c.self.view_is
    (received_steps r m done (outcome_due m.instance r.own done.said) after here.stands here.fits.receivable
    here.fits.spares
    c.in-Ok-take_prepared.ensures.taken.step refl c.in-Ok-take_prepared.ensures.taken.told)
