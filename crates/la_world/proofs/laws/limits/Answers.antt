use Rattle.la_world.proofs.Proposals.{limits_are}
use Rattle.la_world.proofs.laws.limits.Goals as goal

pub returns : goal.returns
returns c = limits_are
