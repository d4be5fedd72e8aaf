use Rattle.std.proofs.Common.{subst, sym, arith}
use Rattle.la_set.specs.Counts.{HasCounts}
use Rattle.la_set.proofs.lemmas.Counting.{HasCounts-known, count_in-from_counts}
use Rattle.la_set.proofs.shared_delta.SharedDelta.all.Goals as goal

pub invariant_of-result : goal.invariant_of-result
invariant_of-result c =
    subst (HasCounts c.args.updates) (sym c.zero.ensures)
    (HasCounts-known c.args.updates _ (λ r lt. omega (arith, count_in-from_counts (λ q. 0) r lt)))
