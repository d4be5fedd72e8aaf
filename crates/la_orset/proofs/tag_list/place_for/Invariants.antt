use Rattle.std.proofs.Common.{◌≤◌, length}
use Rattle.la_orset.proofs.tag_list.place_for.Given as goal

abbrev pub invariant-loop-place : goal.invariant-loop-place
invariant-loop-place l = l.place ≤ length l.ids

abbrev pub decreases-loop-place : goal.decreases-loop-place
decreases-loop-place l = l.place
