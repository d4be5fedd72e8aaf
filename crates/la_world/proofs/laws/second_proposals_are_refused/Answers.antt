use Rattle.la_world.proofs.Proposals.{second_refused}
use Rattle.la_world.proofs.laws.second_proposals_are_refused.Goals as goal

pub returns : goal.returns
returns c = second_refused
