use Rattle.std.proofs.Common.{◌≡◌, take}
use Rattle.la_set.proofs.delta.Delta.begins_alike.Given as goal

abbrev pub invariant-loop-place : goal.invariant-loop-place
invariant-loop-place l = take l.place l.self.more ≡ take l.place l.other.more
