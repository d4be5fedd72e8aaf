use Rattle.la_world.proofs.Outcomes.{learnings_vote}
use Rattle.la_world.proofs.laws.learnings_vote.Goals as goal

pub returns : goal.returns
returns c = learnings_vote
