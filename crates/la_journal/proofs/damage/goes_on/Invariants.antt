use Rattle.std.proofs.Common.{◌-◌, ◌≤◌, length, drop}
use Rattle.std.specs.Prelude.{◌↔◌}
use Rattle.la_journal.specs.Records.{ended, IsRunOn}
use Rattle.la_journal.proofs.damage.goes_on.Given as goal

abbrev pub invariant-loop-line : goal.invariant-loop-line
invariant-loop-line l = record {
  within : l.at ≤ length l.tail;
  same : IsRunOn (ended (drop l.at l.tail)) ↔ IsRunOn (ended l.tail);
}

abbrev pub decreases-loop-line : goal.decreases-loop-line
decreases-loop-line l = length l.tail - l.at
