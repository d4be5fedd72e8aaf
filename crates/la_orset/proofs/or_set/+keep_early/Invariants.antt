use Rattle.std.proofs.Common.{◌-◌, length}
use Rattle.la_orset.proofs.or_set.+keep_early.Given as goal

abbrev pub decreases-keep_early : goal.decreases-keep_early
decreases-keep_early l = length l.ids.now - l.place
