use Rattle.std.proofs.Common.{◌≡◌, ◌≤◌, take, fold}
use Rattle.la_types.specs.CounterMaps.{with_amount, total_kept}
use Rattle.la_types.proofs.counter_map.CounterState.beyond.Given as goal

abbrev pub invariant-loop-kept : goal.invariant-loop-kept
invariant-loop-kept l = record {
  sum : l.sum ≡ fold (with_amount l.key l.counts) 0 (take l.kept-index l.kept-items);
  bound : l.sum ≤ total_kept (take l.kept-index l.kept-items);
}
