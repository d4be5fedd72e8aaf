use Rattle.std.proofs.Common.{◌≡◌, take}
use Rattle.la_types.proofs.counter_map.copy_all.Given as goal

abbrev pub invariant-loop-kept : goal.invariant-loop-kept
invariant-loop-kept l = l.copy.items ≡ take l.kept-index l.all
