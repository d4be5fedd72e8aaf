use Rattle.la_world.proofs.LiveGroups.{calls_live}
use Rattle.la_world.proofs.live.calls_keep_live.Goals as goal

pub returns : goal.returns
returns c = calls_live
