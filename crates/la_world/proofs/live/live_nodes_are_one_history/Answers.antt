use Rattle.la_world.proofs.LiveGroups.{one_history}
use Rattle.la_world.proofs.live.live_nodes_are_one_history.Goals as goal

pub returns : goal.returns
returns c = one_history
