use Rattle.la_set.proofs.lemmas.Comparable.{comparable-compatible}
use Rattle.la_set.proofs.laws.comparable_sets_are_compatible.Goals as goal

pub returns : goal.returns
returns c = comparable-compatible
