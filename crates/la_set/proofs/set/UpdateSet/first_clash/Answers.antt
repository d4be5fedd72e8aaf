use Rattle.la_set.proofs.Rebuilding.{within-zero}
use Rattle.la_set.proofs.set.UpdateSet.first_clash.Goals as goal

pub first_clash_beyond-requires : goal.first_clash_beyond-requires
first_clash_beyond-requires c = rw c.zero.ensures (within-zero c.args.self.now c.args.other.now)
