use Rattle.std.proofs.Common.{IfOk, ap, subst}
use Rattle.la_replica.specs.declared.message.Message.{Message}
use Rattle.la_node.specs.Nodes.{ReturnsIn}
use Rattle.la_node.proofs.node.Node.receive_parcel.Goals as goal

pub returns-clause-returns : goal.returns-clause-returns
returns-clause-returns g c =
    let after = c.receive_beyond.new.self.replica in
    subst (λ i. IfOk c.receive_beyond.result (λ received. ReturnsIn i received.outcome after))
    (ap (λ (m : Message). m.instance) c.in_ok-message.ensures.ok) c.receive_beyond.ensures.returns
