use Rattle.std.proofs.Common.{◌≡◌, ◌++◌, ◌∷◌, drop, map}
use Rattle.la_proposer.specs.Majority.{votes_of}
use Rattle.la_wire.specs.Updates.{made}
use Rattle.la_wire.specs.States.{instances_on}
use Rattle.la_wire.proofs.states.reading.instances_behind.Given as goal

abbrev pub invariant-loop-section : goal.invariant-loop-section
invariant-loop-section l =
    made (λ more. l.instances.items ++ more)
    (instances_on (votes_of l.votes) l.own (map (λ w. w.now) (drop l.section-index l.sections)))
    ≡ made (λ others. l.fn.first ∷ others) (instances_on (votes_of l.votes) l.own (map (λ w. w.now) l.sections))
