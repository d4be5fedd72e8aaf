use Rattle.std.proofs.Common.{Some, ap, sym, subst, ◌∙◌}
use Rattle.la_node.specs.Steps.{given_done}
use Rattle.la_node.specs.Nodes.{NodeState, ReturnsIn, outcome_due}
use Rattle.la_node.proofs.Returning.{told_by}
use Rattle.la_node.proofs.node.Node.receive_fitting.Goals as goal

pub returns-clause-step : goal.returns-clause-step
returns-clause-step g c =
    let i = c.args.message.now.instance in
    let done = c.in_ok-done.done in
    let due =
    told_by i c.own-own.result c.self.inside.replica.own _ _ done.said c.outcome_by-outcome.result
    c.outcome_by-outcome.ensures c.as_ref.ensures.value c.in_ok-done.ensures.learnt c.own-own.ensures.own
    ∙ ap (λ (q : NodeState). outcome_due i q.replica.own done.said) c.self.view_is in
    c.in_ok-done.ensures.step ∙ ap (λ o. Some (given_done done o, c.take.new.self.replica)) (sym due)

pub returns-clause-returns : goal.returns-clause-returns
returns-clause-returns g c =
    let i = c.args.message.now.instance in
    let said = c.in_ok-done.done.said in
    let told =
    told_by i c.own-own.result c.self.inside.replica.own _ _ said c.outcome_by-outcome.result
    c.outcome_by-outcome.ensures c.as_ref.ensures.value c.in_ok-done.ensures.learnt c.own-own.ensures.own in
    subst (λ o. ReturnsIn i o c.take.new.self.replica) (sym told)
    (subst (λ (q : NodeState). ReturnsIn i (outcome_due i q.replica.own said) c.take.new.self.replica)
    (sym c.self.view_is) c.in_ok-done.ensures.returns)
