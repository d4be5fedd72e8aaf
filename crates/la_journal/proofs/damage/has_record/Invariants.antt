use Rattle.std.proofs.Common.{◌≡◌, ◌-◌, ◌≤◌, [], length, take, drop, reverse}
use Rattle.std.specs.Prelude.{◌↔◌}
use Rattle.la_journal.specs.Records.{ended, unended, RecordStands, HasRecord}
use Rattle.la_journal.proofs.damage.has_record.Given as goal

abbrev pub invariant-loop-line : goal.invariant-loop-line
invariant-loop-line l = record {
  within : l.at ≤ length l.tail;
  whole : unended (take l.at l.tail) ≡ [];
  same : RecordStands (reverse (ended (take l.at l.tail))) (ended (drop l.at l.tail)) ↔ HasRecord l.tail;
}

abbrev pub decreases-loop-line : goal.decreases-loop-line
decreases-loop-line l = length l.tail - l.at
