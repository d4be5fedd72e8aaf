use Rattle.std.proofs.Common.{◌≡◌}
use Rattle.la_set.proofs.Overs.{parts, part}
use Rattle.la_set.proofs.set.UpdateSet.listed_over.Given as goal

abbrev pub invariant-loop-replica : goal.invariant-loop-replica
invariant-loop-replica l = l.updates ≡ parts (part l.self l.base) 0 l.replica
