use Rattle.la_runner.proofs.Standing.{certified_compare}
use Rattle.la_runner.proofs.laws.certified_sets_are_comparable.Goals as goal

pub returns : goal.returns
returns c = certified_compare
