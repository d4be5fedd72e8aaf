use Rattle.la_node.proofs.Kept.{again}
use Rattle.la_node.proofs.laws.kept_lists_are_played_again.Goals as goal

pub returns : goal.returns
returns c = again
