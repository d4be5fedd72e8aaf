use Rattle.std.proofs.Common.{◌≡◌, ◌*◌, ◌≤◌}
use Rattle.la_set.proofs.Overs.{over_before}
use Rattle.la_set.proofs.set.UpdateSet.len_over.Given as goal

abbrev pub invariant-loop-replica : goal.invariant-loop-replica
invariant-loop-replica l = record { so_far : l.all ≡ over_before l.self l.base l.replica; few : l.all ≤ l.replica * 1000000 }
