use Rattle.std.proofs.Common.{◌≡◌, ◌++◌, drop, map}
use Rattle.la_wire.specs.Updates.{made, updates_in}
use Rattle.la_wire.proofs.updates.updates_in.Given as goal

abbrev pub invariant-loop-part : goal.invariant-loop-part
invariant-loop-part l =
    made (λ more. l.updates ++ more) (updates_in (map (λ w. w.now) (drop l.part-index l.parts)))
    ≡ updates_in (map (λ w. w.now) l.parts)
