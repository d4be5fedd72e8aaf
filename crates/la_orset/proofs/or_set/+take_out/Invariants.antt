use Rattle.std.proofs.Common.{◌-◌, length}
use Rattle.la_orset.proofs.or_set.+take_out.Given as goal

abbrev pub decreases-take_out : goal.decreases-take_out
decreases-take_out l = length l.ids.now - l.place
