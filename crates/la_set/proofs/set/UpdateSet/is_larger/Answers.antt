use Rattle.la_set.proofs.Rebuilding.{within-zero}
use Rattle.la_set.proofs.set.UpdateSet.is_larger.Goals as goal

pub is_larger_beyond-requires : goal.is_larger_beyond-requires
is_larger_beyond-requires c = rw c.zero.ensures (within-zero c.args.self.now c.args.other.now)
