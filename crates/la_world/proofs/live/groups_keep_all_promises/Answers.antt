use Rattle.la_world.proofs.LiveGroups.{keeps_all}
use Rattle.la_world.proofs.Moments.{groups_keep}
use Rattle.la_world.proofs.live.groups_keep_all_promises.Goals as goal

pub returns-clause-events : goal.returns-clause-events
returns-clause-events c = keeps_all

pub returns-clause-all : goal.returns-clause-all
returns-clause-all c = groups_keep
