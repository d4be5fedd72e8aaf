use Rattle.std.proofs.Common.{sym, ap, subst, ◌∙◌}
use Rattle.la_replica.specs.declared.parcel.Parcel.{Parcel}
use Rattle.la_replica.specs.Parcels.{unwrapped_in, UnwrapsIn}
use Rattle.la_node.specs.Calls.{Received}
use Rattle.la_node.specs.Steps.{node_step}
use Rattle.la_durable.specs.Nodes.{kept_by}
use Rattle.la_durable.proofs.Acting.{message_acts}
use Rattle.la_durable.proofs.machine.NodeMachine.receive.Goals as goal

pub returns-in-Ok-clause-ok : goal.returns-in-Ok-clause-ok
returns-in-Ok-clause-ok c =
    let r = kept_by c.args.self.now in
    message_acts r c.args.letter.now (c.if-letter-replicas.false ∙ c.replicas.ensures)
    (subst (UnwrapsIn r) c.in_ok-copy.ensures c.in-Ok.ensures.unwraps)
    ∙ ap (λ (p : Parcel). node_step r (Received (unwrapped_in r p))) (sym c.in_ok-copy.ensures) ∙ c.in-Ok.ensures.step
