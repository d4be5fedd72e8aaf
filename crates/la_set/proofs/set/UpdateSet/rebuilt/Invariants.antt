use Rattle.std.proofs.Common.{◌≡◌, take}
use Rattle.la_set.specs.Counts.{within}
use Rattle.la_set.specs.Deltas.{pushed}
use Rattle.la_set.specs.Representation.{represented, lent_lists, GrowsFrom}
use Rattle.la_set.proofs.set.UpdateSet.rebuilt.Given as goal

abbrev pub invariant-loop-place : goal.invariant-loop-place
invariant-loop-place l = record {
  so_far : represented l.of ≡ pushed (within l.self l.delta.base) (take l.place l.delta.more);
  grows : GrowsFrom (lent_lists l.lists) l.of l.own;
}
