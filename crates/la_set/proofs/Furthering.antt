-- A delta that is told further.
use Rattle.std.proofs.Common.{◌≡◌, ℕ, ◌≤◌, max, min, ap, sym, ◌∙◌, subst, arith, inl, inr}
use Rattle.std.proofs.lemmas.Bool.{cases_lt}
use Rattle.la_set.specs.declared.counts.Counts.{Counts}
use Rattle.la_set.specs.Histories.{Histories, count}
use Rattle.la_set.specs.Counts.{count_in, from_counts, counts_of, HasCounts}
use Rattle.la_set.specs.Deltas.{further_base}
use Rattle.la_set.proofs.lemmas.Counting.{count_in-from_counts, count_in-counts_of, count_in-past, same_counts}

module _ (s : Histories) (base c : Counts) where
  -- as the code reckons it
  reckoned : Counts
  reckoned = from_counts (λ r. min (count_in c r) (count_in (counts_of s) r))

  pub is-further : (of_set least most : Counts) → of_set ≡ counts_of s
      → least ≡ from_counts (λ r. min (count_in c r) (count_in of_set r))
      → most ≡ from_counts (λ r. max (count_in base r) (count_in least r)) → most ≡ further_base s base c
  is-further of_set least most set is so =
      so ∙ same_counts _ _ (λ r lt.
      ap (λ k. max (count_in base r) (count_in k r)) is
      ∙ ap (max (count_in base r)) (count_in-from_counts (λ q. min (count_in c q) (count_in of_set q)) r lt)
      ∙ ap (λ k. max (count_in base r) (min (count_in c r) (count_in k r))) set
      ∙ ap (λ n. max (count_in base r) (min (count_in c r) n)) (count_in-counts_of s r))

  within-both : (b n k : ℕ) → b ≤ k → max b (min n k) ≤ k
  within-both b n k le = omega (arith, le)

  pub has-further : HasCounts s base → HasCounts s (further_base s base c)
  has-further has r = elim (cases_lt r 8) [
    | inl lt ↦ subst (λ n. n ≤ count s r)
        (sym (count_in-from_counts (λ q. max (count_in base q) (min (count_in c q) (count s q))) r lt))
        (within-both (count_in base r) (count_in c r) (count s r) (has r))
    | inr le ↦ subst (λ n. n ≤ count s r) (sym (count_in-past (further_base s base c) r le)) (omega arith)
  ]
