use Rattle.la_set.proofs.Overs.{over-pushes}
use Rattle.la_set.proofs.Rebuilding.{rebuilt-over, stands-over, same-within}
use Rattle.la_set.proofs.laws.deltas_rebuild.Goals as goal

pub returns-clause-stands : goal.returns-clause-stands
returns-clause-stands c = stands-over

pub returns-clause-same : goal.returns-clause-same
returns-clause-same c = rebuilt-over

pub returns-clause-compatible : goal.returns-clause-compatible
returns-clause-compatible c = same-within

pub returns-clause-shorter : goal.returns-clause-shorter
returns-clause-shorter c = over-pushes
