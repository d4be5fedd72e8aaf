use Rattle.la_replica.proofs.lemmas.Parcelling.{seen_zero}
use Rattle.la_node.proofs.node.Node.receive.Goals as goal

pub receive_beyond-requires-clause-seen : goal.receive_beyond-requires-clause-seen
receive_beyond-requires-clause-seen g c =
    λ lifetimes outlives. seen_zero c.args.self.now.replica c.args.message.now c.zero.result c.zero.ensures
