use Rattle.std.proofs.Common.{◌≡◌, ℕ, ◌<◌, true}
use Rattle.la_node.specs.Resuming.{second_follows}
use Rattle.la_node.proofs.resumed.seconds_follow.Given as goal

abbrev pub invariant-loop-commit : goal.invariant-loop-commit
invariant-loop-commit l = (k : ℕ) → k < l.commit → second_follows l.instances k ≡ true
