use Rattle.la_world.proofs.Together.{calls_together, fewer_together, lost_together, again_together}
use Rattle.la_world.proofs.live.replicas_stay_together.Goals as goal

pub returns-clause-calls : goal.returns-clause-calls
returns-clause-calls c = calls_together

pub returns-clause-fewer : goal.returns-clause-fewer
returns-clause-fewer c = fewer_together

pub returns-clause-lost : goal.returns-clause-lost
returns-clause-lost c = lost_together

pub returns-clause-again : goal.returns-clause-again
returns-clause-again c = again_together
