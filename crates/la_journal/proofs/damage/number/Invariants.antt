use Rattle.std.proofs.Common.{◌≡◌, drop}
use Rattle.la_journal.specs.Records.{number_from}
use Rattle.la_journal.proofs.damage.number.Given as goal

abbrev pub invariant-loop-b : goal.invariant-loop-b
invariant-loop-b l = number_from l.count (drop l.b-index l.bytes) ≡ number_from 0 l.bytes
