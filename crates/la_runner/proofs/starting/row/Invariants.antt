use Rattle.std.proofs.Common.{◌≡◌, map, length}
use Rattle.la_runner.specs.Starting.{newcomer}
use Rattle.la_runner.proofs.starting.row.Given as goal

abbrev pub invariant-loop-number : goal.invariant-loop-number
invariant-loop-number l =
    (length l.acceptors.items ≡ l.number) × (l.passes.items ≡ map newcomer l.acceptors.items)
