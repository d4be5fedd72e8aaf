use Rattle.la_set.proofs.lemmas.Theorems.{within-zero}
use Rattle.la_acceptor.proofs.acceptor.Acceptor.admit_offer.Goals as goal

pub admit_offer_beyond-requires : goal.admit_offer_beyond-requires
admit_offer_beyond-requires c = rw c.zero.ensures (within-zero c.args.self.now c.args.offered.now)
