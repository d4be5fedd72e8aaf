use Rattle.std.proofs.Common.{◌≡◌, ℕ, ◌∷◌, [], ◌∙◌, ap₂, max}
use Rattle.la_set.specs.Counts.{from_counts}
use Rattle.la_set.proofs.counts.Counts.max.Goals as goal

pub returns : goal.returns
unfolding from_counts
returns c = λ i. record {
  of =
      both c.max.ensures c.of.ensures c.of-2.ensures i
      ∷ both c.max-2.ensures c.of-3.ensures c.of-4.ensures i
      ∷ both c.max-3.ensures c.of-5.ensures c.of-6.ensures i
      ∷ both c.max-4.ensures c.of-7.ensures c.of-8.ensures i
      ∷ both c.max-5.ensures c.of-9.ensures c.of-10.ensures i
      ∷ both c.max-6.ensures c.of-11.ensures c.of-12.ensures i
      ∷ both c.max-7.ensures c.of-13.ensures c.of-14.ensures i
      ∷ both c.max-8.ensures c.of-15.ensures c.of-16.ensures i
      ∷ [];
}
  where
    both : {m a b x y : ℕ} → m ≡ max a b → a ≡ x → b ≡ y → m ≡ max x y
    both e p q = e ∙ ap₂ max p q
