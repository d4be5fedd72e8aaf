use Rattle.la_world.proofs.OwnUpdates.{learnt_hold_their_own}
use Rattle.la_world.proofs.laws.learnt_sets_hold_their_own.Goals as goal

pub returns : goal.returns
returns c = learnt_hold_their_own
