use Rattle.std.proofs.Common.{◌≡◌, ℕ, ◌<◌, ◌≤◌, ◌++◌, drop, take, map}
use Rattle.std.specs.Fmt.{decimal}
use Rattle.la_set.specs.Counts.{count_in}
use Rattle.la_script.specs.Numbers.{u32_max}
use Rattle.la_wire.specs.Joined.{spaced}
use Rattle.la_wire.specs.MessageLines.{numbers_in, used, counts_text}
use Rattle.la_wire.proofs.counts.put_counts_text.Given as goal

abbrev pub invariant-loop-replica : goal.invariant-loop-replica
invariant-loop-replica l = record {
  written :
      l.out.items ++ spaced 44 (map decimal (drop l.replica (take (used l.counts) (numbers_in l.counts))))
      ≡ l.fn.out.items ++ counts_text l.counts;
  typed : (r : ℕ) → r < l.replica → count_in l.counts r ≤ u32_max;
}
