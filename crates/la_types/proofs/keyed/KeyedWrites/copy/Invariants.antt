use Rattle.std.proofs.Common.{◌≡◌}
use Rattle.la_types.proofs.KeyedCopies.{all_put}
use Rattle.la_types.proofs.keyed.KeyedWrites.copy.Given as goal

abbrev pub invariant-loop-key : goal.invariant-loop-key
invariant-loop-key l = all_put l.copy l.key-iterator ≡ all_put l.initial.copy l.initial.key-iterator
