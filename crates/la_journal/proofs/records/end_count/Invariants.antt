use Rattle.std.proofs.Common.{◌≡◌, ◌+◌, ◌≤◌, drop}
use Rattle.la_journal.specs.Records.{end_count}
use Rattle.la_journal.proofs.records.end_count.Given as goal

abbrev pub invariant-loop-b : goal.invariant-loop-b
invariant-loop-b l = record {
  within : l.count ≤ l.b-index;
  counted : l.count + end_count (drop l.b-index l.bytes) ≡ end_count l.bytes;
}
