use Rattle.std.proofs.Common.{◌≡◌, ◌∷◌, [], ◌∙◌, rules}
use Rattle.la_set.specs.Counts.{from_counts, count_in}
use Rattle.la_set.proofs.Shortening.{parts, counts-again}
use Rattle.la_set.proofs.short_counts.ShortCounts.of.Goals as goal

pub returns : goal.returns
unfolding from_counts
returns c =
    let joined : _ ≡ from_counts (count_in c.args.counts) = λ i. record {
      of =
          parts c.low_of.ensures c.of.ensures c.high_of.ensures c.of-9.ensures i
          ∷ parts c.low_of-2.ensures c.of-2.ensures c.high_of-2.ensures c.of-10.ensures i
          ∷ parts c.low_of-3.ensures c.of-3.ensures c.high_of-3.ensures c.of-11.ensures i
          ∷ parts c.low_of-4.ensures c.of-4.ensures c.high_of-4.ensures c.of-12.ensures i
          ∷ parts c.low_of-5.ensures c.of-5.ensures c.high_of-5.ensures c.of-13.ensures i
          ∷ parts c.low_of-6.ensures c.of-6.ensures c.high_of-6.ensures c.of-14.ensures i
          ∷ parts c.low_of-7.ensures c.of-7.ensures c.high_of-7.ensures c.of-15.ensures i
          ∷ parts c.low_of-8.ensures c.of-8.ensures c.high_of-8.ensures c.of-16.ensures i
          ∷ [];
    } in
    joined ∙ counts-again c.args.counts (search rules)
