use Rattle.la_world.proofs.OwnUpdates.{learnt_were_submitted}
use Rattle.la_world.proofs.laws.learnt_updates_were_submitted.Goals as goal

pub returns : goal.returns
returns c = learnt_were_submitted
