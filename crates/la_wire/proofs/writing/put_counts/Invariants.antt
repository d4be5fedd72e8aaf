use Rattle.std.proofs.Common.{◌≡◌, ◌++◌, drop}
use Rattle.la_wire.specs.Joined.{spaced}
use Rattle.la_wire.specs.MessageLines.{count_words}
use Rattle.la_wire.proofs.writing.put_counts.Given as goal

abbrev pub invariant-loop-replica : goal.invariant-loop-replica
invariant-loop-replica l =
    l.out.items ++ spaced 32 (drop l.replica (count_words l.counts))
    ≡ l.initial.out.items ++ spaced 32 (count_words l.counts)
