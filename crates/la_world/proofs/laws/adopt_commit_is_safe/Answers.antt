use Rattle.la_world.proofs.Agreement.{adopt_commit}
use Rattle.la_world.proofs.laws.adopt_commit_is_safe.Goals as goal

pub returns : goal.returns
returns c = adopt_commit
