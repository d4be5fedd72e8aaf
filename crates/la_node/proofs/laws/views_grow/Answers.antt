use Rattle.la_node.proofs.lemmas.Stepping.{views_grow as grow}
use Rattle.la_node.proofs.laws.views_grow.Goals as goal

pub returns : goal.returns
returns c = grow
