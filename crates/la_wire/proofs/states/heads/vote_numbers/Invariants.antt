use Rattle.std.proofs.Common.{◌≡◌, ◌++◌, drop, map}
use Rattle.la_wire.specs.Updates.{made}
use Rattle.la_wire.specs.States.{vote_numbers}
use Rattle.la_wire.proofs.states.heads.vote_numbers.Given as goal

abbrev pub invariant-loop-word : goal.invariant-loop-word
invariant-loop-word l =
    made (λ more. l.numbers.items ++ more) (vote_numbers (map (λ w. w.now) (drop l.word-index l.words)))
    ≡ vote_numbers (map (λ w. w.now) l.words)
