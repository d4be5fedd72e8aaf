use Rattle.la_world.proofs.Safe.{reported}
use Rattle.la_world.proofs.laws.reported_outcomes_are_safe.Goals as goal

pub returns : goal.returns
returns c = reported
