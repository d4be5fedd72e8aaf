use Rattle.std.proofs.Common.{◌≡◌, ◌++◌, length}
use Rattle.la_script.specs.Words.{bytes_of}
use Rattle.la_wire.specs.Updates.{made}
use Rattle.la_wire.specs.States.{tally_on}
use Rattle.la_wire.proofs.states.reading.tally_on.Given as goal

abbrev pub invariant-loop-left : goal.invariant-loop-left
invariant-loop-left l =
    made (λ more. l.tally.items ++ more) (tally_on l.union (bytes_of l.left)) ≡ tally_on l.union (bytes_of l.words)

abbrev pub decreases-loop-left : goal.decreases-loop-left
decreases-loop-left l = length l.left
