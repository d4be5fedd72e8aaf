use Rattle.la_world.proofs.Proposals.{tested_in_order}
use Rattle.la_world.proofs.laws.proposals_are_tested_in_order.Goals as goal

pub returns : goal.returns
returns c = tested_in_order
