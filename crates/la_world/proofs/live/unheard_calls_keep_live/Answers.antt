use Rattle.la_world.proofs.LiveGroups.{unheard_live}
use Rattle.la_world.proofs.live.unheard_calls_keep_live.Goals as goal

pub returns : goal.returns
returns c = unheard_live
