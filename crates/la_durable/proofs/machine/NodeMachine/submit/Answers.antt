use Rattle.std.proofs.Common.{Some, ap, sym, ◌∙◌}
use Rattle.la_proposer.specs.ProposerState.{op_on}
use Rattle.la_node.specs.Calls.{Submitted}
use Rattle.la_node.specs.Steps.{given_of, node_step}
use Rattle.la_durable.specs.Nodes.{kept_by}
use Rattle.la_durable.proofs.Acting.{submission_acts}
use Rattle.la_durable.proofs.machine.NodeMachine.submit.Goals as goal

pub returns-in-Ok-clause-ok : goal.returns-in-Ok-clause-ok
returns-in-Ok-clause-ok c =
    let r = kept_by c.args.self.now in
    let after = c.submit.new.self.replica in
    submission_acts r c.args.replica c.args.object c.args.op.now (c.if-replica-own.false ∙ c.own.ensures)
    ∙ ap (λ op. node_step r (Submitted (op_on c.args.object op))) (sym c.in_ok-copy.ensures.ok)
    ∙ c.in-Ok.ensures.step ∙ ap (λ g. Some (given_of g, after)) (sym c.answered.ensures)
