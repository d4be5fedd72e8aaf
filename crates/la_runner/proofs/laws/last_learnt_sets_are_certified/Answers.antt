use Rattle.la_runner.proofs.Standing.{learnt_is}
use Rattle.la_runner.proofs.laws.last_learnt_sets_are_certified.Goals as goal

pub returns : goal.returns
returns c = learnt_is
