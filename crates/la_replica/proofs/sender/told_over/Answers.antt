use Rattle.std.proofs.Common.{min, ap, arith}
use Rattle.la_set.specs.Counts.{count_in}
use Rattle.la_set.proofs.lemmas.Counting.{HasCounts-known, count_in-from_counts, count_in-counts_of}
use Rattle.la_replica.proofs.sender.told_over.Goals as goal

pub over-requires : goal.over-requires
over-requires c =
    let updates = c.args.updates.now in let own = c.counts.result in let told = c.args.reported in
    HasCounts-known updates c.min.result (λ r lt.
    omega (arith, ap (λ b. count_in b r) c.min.ensures, count_in-from_counts (λ q. min (count_in told q) (count_in own q)) r lt, ap (λ b. count_in b r) c.counts.ensures.counts, count_in-counts_of updates r))
