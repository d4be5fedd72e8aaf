use Rattle.std.proofs.Common.{◌≡◌, ◌+◌, length, drop}
use Rattle.la_journal.specs.Durable.{alike}
use Rattle.la_journal.proofs.recovery.alike.Given as goal

abbrev pub invariant-loop-a : goal.invariant-loop-a
invariant-loop-a l = record {
  count : l.count ≡ length l.yielded;
  same : alike l.one l.other ≡ l.count + alike (drop l.count l.one) (drop l.count l.other);
}
