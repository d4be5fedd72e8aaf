use Rattle.la_runner.proofs.Standing.{told_or_own}
use Rattle.la_runner.proofs.laws.nothing_is_invented.Goals as goal

pub returns : goal.returns
returns c = told_or_own
