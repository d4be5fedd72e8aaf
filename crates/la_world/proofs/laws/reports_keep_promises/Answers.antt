use Rattle.la_world.proofs.Reported.{reports_keep}
use Rattle.la_world.proofs.laws.reports_keep_promises.Goals as goal

pub returns : goal.returns
returns c = reports_keep
