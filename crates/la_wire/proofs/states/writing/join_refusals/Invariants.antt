use Rattle.std.proofs.Common.{◌≡◌, drop}
use Rattle.la_proposer.specs.Tally.{joined_with_refusals}
use Rattle.la_wire.proofs.states.writing.join_refusals.Given as goal

abbrev pub invariant-loop-counted : goal.invariant-loop-counted
invariant-loop-counted l =
    joined_with_refusals l.set (drop l.counted-index l.tally) ≡ joined_with_refusals l.initial.set l.tally
