use Rattle.la_set.proofs.Joining.{IsJoining}
use Rattle.la_set.proofs.set.UpdateSet.join.Given as goal

abbrev pub invariant-loop-replica : goal.invariant-loop-replica
invariant-loop-replica l = IsJoining l.self l.other l.of l.replica
