use Rattle.std.proofs.Common.{◌∷◌, [], ◌∙◌}
use Rattle.la_set.specs.Counts.{from_counts}
use Rattle.la_node.specs.Links.{reaching}
use Rattle.la_node.proofs.link.reaching.Goals as goal

pub returns : goal.returns
unfolding reaching from_counts
returns c =
    c.from.ensures
    ∙ (λ i.
    record {
      of =
          c.number_with.ensures i ∷ c.number_with-2.ensures i ∷ c.number_with-3.ensures i ∷ c.number_with-4.ensures i ∷
          c.number_with-5.ensures i ∷ c.number_with-6.ensures i ∷ c.number_with-7.ensures i ∷
          c.number_with-8.ensures i ∷ [];
    })
