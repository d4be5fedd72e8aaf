use Rattle.std.proofs.Common.{ℕ, ◌<◌, ◌≤◌}
use Rattle.la_set.specs.Histories.{count}
use Rattle.la_set.specs.Counts.{count_in}
use Rattle.la_set.proofs.set.UpdateSet.has_counts.Given as goal

abbrev pub invariant-loop-replica : goal.invariant-loop-replica
invariant-loop-replica l = (r : ℕ) → r < l.replica → count_in l.counts r ≤ count l.self r
