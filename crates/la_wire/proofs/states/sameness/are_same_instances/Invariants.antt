use Rattle.std.proofs.Common.{◌≡◌, drop}
use Rattle.std.specs.Cmp.Lexicographic.{pointwise}
use Rattle.la_wire.specs.SameStates.{is_same_instance}
use Rattle.la_wire.proofs.states.sameness.are_same_instances.Given as goal

abbrev pub invariant-loop-instance : goal.invariant-loop-instance
invariant-loop-instance l =
    pointwise is_same_instance (drop l.instance-index l.one) l.left ≡ pointwise is_same_instance l.one l.other
