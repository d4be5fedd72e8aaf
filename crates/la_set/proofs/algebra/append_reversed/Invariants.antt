use Rattle.std.proofs.Common.{◌≡◌, ◌≤◌, ◌++◌, length, reverse}
use Rattle.la_set.proofs.algebra.append_reversed.Given as goal

abbrev pub invariant-loop-update : goal.invariant-loop-update
invariant-loop-update l = record { so_far : l.updates ++ reverse l.left.items ≡ l.initial.updates ++ reverse l.initial.left.items; fewer : length l.left.items ≤ length l.initial.left.items }

abbrev pub decreases-loop-update : goal.decreases-loop-update
decreases-loop-update l = length l.left.items
