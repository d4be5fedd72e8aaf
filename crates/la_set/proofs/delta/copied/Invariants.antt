use Rattle.std.proofs.Common.{◌≡◌, take}
use Rattle.la_set.proofs.delta.copied.Given as goal

abbrev pub invariant-loop-update : goal.invariant-loop-update
invariant-loop-update l = l.copy ≡ take l.update-index l.updates
