use Rattle.la_world.proofs.Asking.{answers_are_values}
use Rattle.la_world.proofs.laws.answers_are_values.Goals as goal

pub returns : goal.returns
returns c = answers_are_values
