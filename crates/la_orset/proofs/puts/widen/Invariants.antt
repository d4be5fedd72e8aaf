use Rattle.std.proofs.Common.{◌≡◌, ◌≤◌, ◌-◌, length}
use Rattle.la_orset.specs.Puts.{entries_from}
use Rattle.la_orset.proofs.puts.widen.Given as goal

abbrev pub invariant-loop-alloc : goal.invariant-loop-alloc
invariant-loop-alloc l =
    (entries_from 0 l.by_replica.items ≡ entries_from 0 l.fn.by_replica.items) × (length l.by_replica.items ≤ 256)

abbrev pub decreases-loop-alloc : goal.decreases-loop-alloc
decreases-loop-alloc l = l.least - length l.by_replica.items
