use Rattle.std.proofs.Common.{◌≡◌, ◌++◌, drop}
use Rattle.la_wire.specs.Joined.{spaced}
use Rattle.la_wire.specs.States.{tally_words}
use Rattle.la_wire.proofs.states.writing.put_tally.Given as goal

abbrev pub invariant-loop-counted : goal.invariant-loop-counted
invariant-loop-counted l =
    l.out.items ++ spaced 32 (tally_words (drop l.counted-index l.tally))
    ≡ l.initial.out.items ++ spaced 32 (tally_words l.tally)
