use Rattle.std.proofs.Common.{◌≡◌, map, take}
use Rattle.la_runner.specs.Starting.{newcomer}
use Rattle.la_runner.proofs.starting.passes.Given as goal

abbrev pub invariant-loop-at : goal.invariant-loop-at
invariant-loop-at l =
    (l.firsts.items ≡ l.fn.firsts.items) × (l.made.items ≡ map newcomer (take l.at l.acceptors))
