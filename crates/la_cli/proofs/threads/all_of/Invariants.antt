use Rattle.std.proofs.Common.{◌≡◌, ◌++◌, length}
use Rattle.la_cli.proofs.threads.all_of.Given as goal

abbrev pub invariant-loop-member : goal.invariant-loop-member
invariant-loop-member l = l.all.items ++ l.left ≡ l.fn.members

abbrev pub decreases-loop-member : goal.decreases-loop-member
decreases-loop-member l = length l.left
