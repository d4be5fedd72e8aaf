use Rattle.la_world.proofs.Validity.{learnt_taken}
use Rattle.la_world.proofs.laws.learnt_sets_hold_what_was_taken.Goals as goal

pub returns : goal.returns
returns c = learnt_taken
