use Rattle.std.proofs.Common.{◌≡◌, ◌≤◌, [], length, take, drop, reverse}
use Rattle.la_journal.specs.Lines.{file_of}
use Rattle.la_journal.specs.Records.{ended, unended}
use Rattle.la_journal.proofs.damage.last_lines.Given as goal

abbrev pub invariant-loop-i : goal.invariant-loop-i
invariant-loop-i l = record {
  within : l.at ≤ length l.before;
  whole : unended (take l.at l.before) ≡ [];
  few : l.i ≤ length (ended l.before);
  front : reverse (ended (take l.at l.before)) ≡ drop l.i (reverse (ended l.before));
  back : drop l.at l.before ≡ file_of (reverse (take l.i (reverse (ended l.before))));
}
