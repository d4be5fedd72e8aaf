use Rattle.std.proofs.Common.{◌≡◌, ℕ, ◌<◌, length, take, slice_index_or}
use Rattle.la_set.specs.Histories.{count}
use Rattle.la_set.specs.Counts.{within}
use Rattle.la_set.specs.Deltas.{pushed, AreNext}
use Rattle.la_set.proofs.set.UpdateSet.leads_on.Given as goal

abbrev pub invariant-loop-place : goal.invariant-loop-place
invariant-loop-place l = record {
  eight : length l.counts ≡ 8;
  counts : (r : ℕ) → r < 8
      → slice_index_or l.counts r 0 ≡ count (pushed (within l.self l.delta.base) (take l.place l.delta.more)) r;
  next : AreNext (within l.self l.delta.base) (take l.place l.delta.more);
}
