use Rattle.std.proofs.Common.{◌≡◌, ◌-◌, ◌≤◌, [], length, take, drop}
use Rattle.la_journal.specs.Commits.{groups_from, groups}
use Rattle.la_journal.specs.Records.{record_line}
use Rattle.la_journal.proofs.grouped.next_group.Given as goal

abbrev pub invariant-loop-n : goal.invariant-loop-n
invariant-loop-n l = record {
  within : l.at ≤ length l.bytes;
  same : groups_from record_line l.before (take l.at l.bytes) [] (drop l.at l.bytes)
      ≡ groups record_line l.before l.bytes;
}

abbrev pub decreases-loop-n : goal.decreases-loop-n
decreases-loop-n l = length l.bytes - l.at
