use Rattle.std.proofs.Common.{◌-◌, ◌≡◌, ◌≤◌}
use Rattle.la_wire.specs.MessageLines.{used_from, used}
use Rattle.la_wire.proofs.counts.used.Given as goal

abbrev pub invariant-loop-used : goal.invariant-loop-used
invariant-loop-used l = record {
  some : 1 ≤ l.used;
  few : l.used ≤ 8;
  left : used_from l.counts (l.used - 1) ≡ used l.counts;
}

abbrev pub decreases-loop-used : goal.decreases-loop-used
decreases-loop-used l = l.used - 1
