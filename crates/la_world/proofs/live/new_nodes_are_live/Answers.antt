use Rattle.la_world.proofs.LiveGroups.{new_live}
use Rattle.la_world.proofs.live.new_nodes_are_live.Goals as goal

pub returns : goal.returns
returns c = new_live
