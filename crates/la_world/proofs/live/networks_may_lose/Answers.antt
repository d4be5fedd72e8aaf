use Rattle.la_world.proofs.LiveGroups.{loses_live}
use Rattle.la_world.proofs.live.networks_may_lose.Goals as goal

pub returns : goal.returns
returns c = loses_live
