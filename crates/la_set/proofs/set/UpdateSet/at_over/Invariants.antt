use Rattle.std.proofs.Common.{◌≡◌, ◌+◌}
use Rattle.la_set.proofs.Overs.{over_before}
use Rattle.la_set.proofs.set.UpdateSet.at_over.Given as goal

abbrev pub invariant-loop-replica : goal.invariant-loop-replica
invariant-loop-replica l = l.place ≡ over_before l.self l.base l.replica + l.left
