use Rattle.la_durable.proofs.Restarts.{views_grow as grow}
use Rattle.la_durable.proofs.laws.views_grow.Goals as goal

pub returns : goal.returns
returns c = grow
