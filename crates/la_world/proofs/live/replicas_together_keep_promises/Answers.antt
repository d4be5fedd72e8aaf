use Rattle.la_world.proofs.Moments.{together_keep, together_of_events}
use Rattle.la_world.proofs.live.replicas_together_keep_promises.Goals as goal

pub returns-clause-all : goal.returns-clause-all
returns-clause-all c = together_keep

pub returns-clause-events : goal.returns-clause-events
returns-clause-events c = together_of_events
