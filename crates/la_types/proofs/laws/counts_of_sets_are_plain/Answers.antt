use Rattle.std.proofs.Common.{refl}
use Rattle.la_set.specs.Counts.{count_in, from_counts}
use Rattle.la_types.proofs.laws.counts_of_sets_are_plain.Goals as goal

pub returns : goal.returns
unfolding count_in from_counts
returns c set = refl
