use Rattle.la_world.proofs.Chains.{number_names}
use Rattle.la_world.proofs.laws.a_number_names_one_ballot.Goals as goal

pub returns : goal.returns
returns c = number_names
