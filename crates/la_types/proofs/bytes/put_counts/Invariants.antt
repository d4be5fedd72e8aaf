use Rattle.std.proofs.Common.{◌≡◌, ℕ, ◌<◌, ◌++◌}
use Rattle.std.specs.List.{flat_map, range_with_len}
use Rattle.la_set.specs.Counts.{count_in}
use Rattle.la_types.specs.Bytes.{count_bytes}
use Rattle.la_types.proofs.bytes.put_counts.Given as goal

abbrev pub invariant-loop-replica : goal.invariant-loop-replica
invariant-loop-replica l = record {
  items : l.bytes.items ≡ l.initial.bytes.items ++ flat_map (count_bytes l.counts) (range_with_len 0 l.replica);
  small : (r : ℕ) → r < l.replica → count_in l.counts r < 4294967296;
}
