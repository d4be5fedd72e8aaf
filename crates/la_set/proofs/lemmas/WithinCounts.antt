-- Sets that are the same within some counts stay so where they grow.
use Rattle.std.proofs.Common.{◌≡◌, ◌∙◌, ℕ, inl, inr, refl, sym, arith}
use Rattle.std.proofs.lemmas.Bool.{cases_lt}
use Rattle.la_set.specs.declared.counts.Counts.{Counts}
use Rattle.la_set.specs.AgreeWithin.{AgreeWithin}
use Rattle.la_set.specs.Counts.{count_in, counts_of, zero_counts, HasCounts, within}
use Rattle.la_set.specs.Histories.{Histories}
use Rattle.la_set.specs.Inclusion.{IsSubset}
use Rattle.la_set.proofs.Rebuilding.{same-within, within-zero}
use Rattle.la_set.proofs.lemmas.Counting.{count_in-counts_of, count_in-from_counts, count_in-past}
use Rattle.la_set.proofs.lemmas.Inclusions.{subset-refl, subset-count, compatible-within}

has_more : (b : Counts) (s t : Histories) → HasCounts s b → IsSubset s t → HasCounts t b
has_more b s t has sub r = omega (arith, has r, subset-count s t sub r)

-- a set that has grown has the same within counts that it had
within_grown : (b : Counts) (s t : Histories) → HasCounts s b → IsSubset s t → within t b ≡ within s b
within_grown b s t has sub =
    sym (same-within s t b has (has_more b s t has sub) (compatible-within s t t sub (subset-refl t)))

-- an agreement stays where either set grows
pub agree_grown : (b : Counts) (s t u v : Histories)
    → IsSubset s t → IsSubset u v → AgreeWithin b s u → AgreeWithin b t v
agree_grown b s t u v p q h = record {
  first = has_more b s t h.first p;
  second = has_more b u v h.second q;
  same = within_grown b s t h.first p ∙ h.same ∙ sym (within_grown b u v h.second q);
}

all_there : (s : Histories) → HasCounts s (counts_of s)
all_there s r = omega (arith, count_in-counts_of s r)

-- two sets that contain a third one agree as far as that goes
pub agree_by : (s t u : Histories) → IsSubset s t → IsSubset s u → AgreeWithin (counts_of s) t u
agree_by s t u p q =
    agree_grown (counts_of s) s t s u p q (record { first = all_there s; second = all_there s; same = refl })

none_of : (r : ℕ) → count_in zero_counts r ≡ 0
none_of r = elim (cases_lt r 8) [
  | inl lt ↦ count_in-from_counts (λ q. 0) r lt
  | inr le ↦ count_in-past zero_counts r le
]

-- whatever two sets are, they agree within no counts
pub none_agreed : (s t : Histories) → AgreeWithin zero_counts s t
none_agreed s t = record {
  first = λ r. omega (arith, none_of r);
  second = λ r. omega (arith, none_of r);
  same = within-zero s t;
}
