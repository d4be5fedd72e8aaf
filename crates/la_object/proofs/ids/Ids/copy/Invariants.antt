use Rattle.std.proofs.Common.{◌≡◌}
use Rattle.la_object.proofs.Copies.{filled}
use Rattle.la_object.proofs.ids.Ids.copy.Given as goal

abbrev pub invariant-loop-id : goal.invariant-loop-id
invariant-loop-id l = filled l.copy l.id-iterator ≡ filled l.initial.copy l.initial.id-iterator
