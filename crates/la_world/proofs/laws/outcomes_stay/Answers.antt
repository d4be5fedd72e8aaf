use Rattle.la_world.proofs.Staying.{outcomes_stay}
use Rattle.la_world.proofs.laws.outcomes_stay.Goals as goal

pub returns : goal.returns
returns c = outcomes_stay
