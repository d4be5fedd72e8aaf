use Rattle.std.proofs.Common.{◌≡◌, All, map, length}
use Rattle.la_runner.specs.Starting.{newcomer}
use Rattle.la_runner.proofs.starting.rows.Given as goal

abbrev pub invariant-loop : goal.invariant-loop
invariant-loop l =
    (length l.made.items ≡ l.counter)
    × All (λ r. length r.acceptors.items ≡ l.replicas) l.made.items
    × (map (λ f. f.passes.items) l.firsts.items
    ≡ map (λ r. map newcomer r.acceptors.items) l.made.items)
