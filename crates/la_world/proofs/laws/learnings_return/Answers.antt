use Rattle.la_world.proofs.Outcomes.{learnings_return}
use Rattle.la_world.proofs.laws.learnings_return.Goals as goal

pub returns : goal.returns
returns c = learnings_return
