use Rattle.std.proofs.Common.{◌≡◌, ℕ, ◌<◌, length, slice_index_or}
use Rattle.la_set.specs.AgreeWithin.{AgreeTo}
use Rattle.la_set.proofs.set.UpdateSet.agreement.Given as goal

abbrev pub invariant-loop-replica : goal.invariant-loop-replica
invariant-loop-replica l = record {
  eight : length l.of ≡ 8;
  each : (q : ℕ) → q < l.replica → AgreeTo l.self l.other q (slice_index_or l.of q 0);
}
