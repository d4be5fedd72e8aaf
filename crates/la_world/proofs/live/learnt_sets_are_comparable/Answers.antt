use Rattle.la_world.proofs.LiveGroups.{learnt_comparable_live}
use Rattle.la_world.proofs.live.learnt_sets_are_comparable.Goals as goal

pub returns : goal.returns
returns c = learnt_comparable_live
