use Rattle.std.proofs.Common.{◌≡◌}
use Rattle.std.specs.List.{slice_get}
use Rattle.la_orset.proofs.chain.Chain.nth.Given as goal

abbrev pub invariant-loop-here : goal.invariant-loop-here
invariant-loop-here g l = slice_get l.here l.left ≡ slice_get l.initial.here l.initial.left
