use Rattle.std.proofs.Common.{[], ◌∷◌, ◌∙◌}
use Rattle.la_set.specs.Counts.{from_counts}
use Rattle.la_types.proofs.bytes.counts_in.Goals as goal

pub returns : goal.returns
unfolding from_counts
returns c =
    c.from.ensures
    ∙ (λ i. record {
      of = c.count_at.ensures i ∷ c.count_at-2.ensures i ∷ c.count_at-3.ensures i ∷ c.count_at-4.ensures i
          ∷ c.count_at-5.ensures i ∷ c.count_at-6.ensures i ∷ c.count_at-7.ensures i ∷ c.count_at-8.ensures i ∷ [];
    })
