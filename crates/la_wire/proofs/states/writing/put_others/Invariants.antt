use Rattle.std.proofs.Common.{◌≡◌, ◌++◌, drop, map}
use Rattle.la_wire.specs.Joined.{spaced}
use Rattle.la_wire.specs.States.{section_text, union_in}
use Rattle.la_wire.proofs.states.writing.put_others.Given as goal

abbrev pub invariant-loop-instance : goal.invariant-loop-instance
invariant-loop-instance l =
    l.out.items ++ spaced 124 (map (λ x. section_text x (union_in x)) (drop l.instance-index l.instances))
    ≡ l.initial.out.items ++ spaced 124 (map (λ x. section_text x (union_in x)) l.instances)
