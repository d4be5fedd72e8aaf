use Rattle.la_runner.proofs.Standing.{view_compares}
use Rattle.la_runner.proofs.laws.views_are_comparable_with_certified_sets.Goals as goal

pub returns : goal.returns
returns c = view_compares
