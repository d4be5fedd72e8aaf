use Rattle.la_world.proofs.Together.{new_together}
use Rattle.la_world.proofs.live.new_replicas_are_together.Goals as goal

pub returns : goal.returns
returns c = new_together
