use Rattle.std.proofs.Common.{◌≡◌}
use Rattle.la_object.proofs.Copies.{all_put}
use Rattle.la_object.proofs.adds.Adds.copy.Given as goal

abbrev pub invariant-loop-id : goal.invariant-loop-id
invariant-loop-id l = all_put l.copy l.id-iterator ≡ all_put l.initial.copy l.initial.id-iterator
