use Rattle.std.proofs.Common.{◌-◌, ◌<◌, length, take, drop}
use Rattle.la_journal.specs.Commits.{HasNoEnd}
use Rattle.la_journal.proofs.damage.last_line.Given as goal

abbrev pub invariant-loop-at : goal.invariant-loop-at
invariant-loop-at l = record {
  within : l.at < length l.bytes;
  none : HasNoEnd (take (length l.bytes - 1 - l.at) (drop l.at l.bytes));
}

abbrev pub decreases-loop-at : goal.decreases-loop-at
decreases-loop-at l = l.at
