use Rattle.la_set.proofs.Walks.{steps_left}
use Rattle.la_set.proofs.history.release.Given as goal

abbrev pub decreases-loop-at : goal.decreases-loop-at
decreases-loop-at g l = steps_left l.at
