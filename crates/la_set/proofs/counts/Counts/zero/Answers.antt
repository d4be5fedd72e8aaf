use Rattle.std.proofs.Common.{refl}
use Rattle.la_set.specs.Counts.{from_counts}
use Rattle.la_set.proofs.counts.Counts.zero.Goals as goal

pub returns : goal.returns
unfolding from_counts
returns c = refl
