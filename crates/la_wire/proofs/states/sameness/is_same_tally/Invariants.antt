use Rattle.std.proofs.Common.{◌≡◌, drop}
use Rattle.std.specs.Cmp.Lexicographic.{pointwise}
use Rattle.la_wire.specs.SameStates.{is_same_counted}
use Rattle.la_wire.proofs.states.sameness.is_same_tally.Given as goal

abbrev pub invariant-loop-counted : goal.invariant-loop-counted
invariant-loop-counted l =
    pointwise is_same_counted (drop l.counted-index l.one) l.left ≡ pointwise is_same_counted l.one l.other
