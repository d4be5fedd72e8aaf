use Rattle.std.proofs.Common.{Some, ap, sym, ◌∙◌}
use Rattle.la_node.specs.Steps.{given_of}
use Rattle.la_durable.specs.Nodes.{kept_by}
use Rattle.la_durable.proofs.Acting.{proposal_acts}
use Rattle.la_durable.proofs.machine.NodeMachine.propose.Goals as goal

pub returns-in-Ok-clause-ok : goal.returns-in-Ok-clause-ok
returns-in-Ok-clause-ok c =
    proposal_acts (kept_by c.args.self.now) c.args.replica c.args.commit c.args.value
    (c.if-replica-own.false ∙ c.own.ensures)
    ∙ c.in-Ok.ensures.step
    ∙ ap (λ g. Some (given_of g, c.propose.new.self.replica)) (sym c.answered.ensures)
