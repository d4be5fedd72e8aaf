use Rattle.std.proofs.Common.{◌≡◌, ◌++◌, drop, map}
use Rattle.std.specs.Fmt.{decimal}
use Rattle.la_proposer.specs.Majority.{votes_of}
use Rattle.la_wire.specs.Joined.{spaced}
use Rattle.la_wire.proofs.states.writing.put_votes.Given as goal

abbrev pub invariant-loop-replica : goal.invariant-loop-replica
invariant-loop-replica l =
    l.out.items ++ spaced 32 (map decimal (drop l.replica (votes_of l.votes)))
    ≡ l.initial.out.items ++ spaced 32 (map decimal (votes_of l.votes))
