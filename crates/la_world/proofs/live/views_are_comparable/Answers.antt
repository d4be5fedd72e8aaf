use Rattle.la_world.proofs.LiveGroups.{views_comparable_live}
use Rattle.la_world.proofs.live.views_are_comparable.Goals as goal

pub returns : goal.returns
returns c = views_comparable_live
