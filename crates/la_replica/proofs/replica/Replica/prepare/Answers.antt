use Rattle.la_replica.proofs.lemmas.Parcelling.{seen_zero}
use Rattle.la_replica.proofs.replica.Replica.prepare.Goals as goal

pub prepare_beyond-requires : goal.prepare_beyond-requires
prepare_beyond-requires c = seen_zero c.args.self.now c.args.message.now c.zero.result c.zero.ensures
