use Rattle.la_world.proofs.Legal.{proposal_steps}
use Rattle.la_world.proofs.laws.proposals_follow_the_trace.Goals as goal

pub returns : goal.returns
returns c = proposal_steps
