use Rattle.la_world.proofs.Hearing.{reports_are_accepted}
use Rattle.la_world.proofs.laws.reports_are_accepted.Goals as goal

pub returns : goal.returns
returns c = reports_are_accepted
