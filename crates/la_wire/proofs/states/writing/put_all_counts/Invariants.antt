use Rattle.std.proofs.Common.{◌≡◌, ◌++◌, drop, map}
use Rattle.la_wire.specs.Joined.{spaced}
use Rattle.la_wire.specs.MessageLines.{counts_text}
use Rattle.la_wire.proofs.states.writing.put_all_counts.Given as goal

abbrev pub invariant-loop-counts : goal.invariant-loop-counts
invariant-loop-counts l =
    l.out.items ++ spaced 32 (map counts_text (drop l.counts-index l.all))
    ≡ l.initial.out.items ++ spaced 32 (map counts_text l.all)
