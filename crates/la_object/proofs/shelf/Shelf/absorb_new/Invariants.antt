use Rattle.std.proofs.Common.{length}
use Rattle.la_set.specs.Difference.{beyond}
use Rattle.la_object.specs.Shelves.{HasTaken}
use Rattle.la_object.proofs.shelf.Shelf.absorb_new.Given as goal

abbrev pub invariant-loop-replica : goal.invariant-loop-replica
invariant-loop-replica g l = HasTaken l.initial.self l.set l.self l.done

abbrev pub decreases-loop-replica : goal.decreases-loop-replica
decreases-loop-replica g l = length (beyond l.set l.self.view)
