use Rattle.la_world.proofs.LiveGroups.{groups_stand}
use Rattle.la_world.proofs.live.groups_stand_for_events.Goals as goal

pub returns : goal.returns
returns c = groups_stand
