use Rattle.la_world.proofs.LargestViews.{views_comparable}
use Rattle.la_world.proofs.laws.views_are_comparable.Goals as goal

pub returns : goal.returns
returns c = views_comparable
