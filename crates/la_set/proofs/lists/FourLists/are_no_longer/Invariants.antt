use Rattle.std.proofs.Common.{ℕ, ◌<◌, ◌≤◌, [], length, slice_index_or}
use Rattle.la_set.proofs.lists.FourLists.are_no_longer.Given as goal

abbrev pub invariant-loop-place : goal.invariant-loop-place
invariant-loop-place l =
    (r : ℕ) → r < l.place → length (slice_index_or l.self r []) ≤ length (slice_index_or l.others r [])
