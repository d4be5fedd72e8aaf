use Rattle.la_world.proofs.Safe.{returns_safely}
use Rattle.la_world.proofs.WorldOutcomes.{answers_listed}
use Rattle.la_world.proofs.world.World.outcome.Goals as goal

pub returns-clause-listed : goal.returns-clause-listed
returns-clause-listed g c events stands = answers_listed _ events stands

pub returns-clause-safe : goal.returns-clause-safe
returns-clause-safe g c events stands = returns_safely _ events stands
