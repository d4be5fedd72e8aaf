use Rattle.la_set.proofs.lemmas.Theorems.{within-zero}
use Rattle.la_acceptor.proofs.acceptor.Acceptor.offer.Goals as goal

pub offer_beyond-requires : goal.offer_beyond-requires
offer_beyond-requires c = rw c.zero.ensures (within-zero c.args.self.now c.args.offered.now)
