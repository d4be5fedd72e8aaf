use Rattle.la_runner.proofs.Standing.{view_is}
use Rattle.la_runner.proofs.laws.views_are_certified.Goals as goal

pub returns : goal.returns
returns c = view_is
