use Rattle.std.proofs.Common.{◌≡◌, take, fold}
use Rattle.la_set.specs.Counts.{zero_counts}
use Rattle.la_types.specs.CounterMaps.{with_seen}
use Rattle.la_types.proofs.counter_map.CounterState.seen.Given as goal

abbrev pub invariant-loop-kept : goal.invariant-loop-kept
invariant-loop-kept l = l.seen ≡ fold (with_seen l.key) zero_counts (take l.kept-index l.kept-items)
