use Rattle.std.proofs.Common.{◌≡◌, ◌*◌, take, length}
use Rattle.la_journal.specs.Records.{hex}
use Rattle.la_journal.proofs.records.first_digits.Given as goal

abbrev pub invariant-loop-i : goal.invariant-loop-i
invariant-loop-i l = record {
  long : length l.digits ≡ 16;
  so : take (2 * l.i) l.digits ≡ hex (take l.i l.bytes);
}
