use Rattle.std.proofs.Common.{◌≡◌, ◌∷◌, [], ◌∙◌}
use Rattle.la_set.specs.Counts.{from_counts}
use Rattle.la_set.specs.Short.{counts_by}
use Rattle.la_set.proofs.short_counts.ShortCounts.counts.Goals as goal

pub returns : goal.returns
unfolding from_counts
returns c =
    let read : _ ≡ counts_by c.self.inside.low c.self.inside.high = λ i. record {
      of =
          c.joined.ensures i ∷ c.joined-2.ensures i ∷ c.joined-3.ensures i ∷ c.joined-4.ensures i
          ∷ c.joined-5.ensures i ∷ c.joined-6.ensures i ∷ c.joined-7.ensures i ∷ c.joined-8.ensures i ∷ [];
    } in
    read ∙ c.self.view_is
