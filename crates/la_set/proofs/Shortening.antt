-- Counts in two parts.
use Rattle.std.proofs.Common.{◌≡◌, ℕ, ◌+◌, ◌*◌, length, sym, ap, ap₂, ◌∙◌}
use Rattle.std.proofs.Math.Nat.{mod-add-div}
use Rattle.la_set.specs.declared.counts.Counts.{Counts}
use Rattle.la_set.specs.Counts.{count_in, from_counts}
use Rattle.la_set.specs.Short.{low_part, high_part}
use Rattle.la_set.proofs.lemmas.Counting.{eight-counts, same_counts, count_in-known}

-- the two parts of a number
pub parts : {l h a b n : ℕ} → l ≡ low_part a → a ≡ n → h ≡ high_part b → b ≡ n → l + 65536 * h ≡ n
parts {n = n} low a high b =
    ap₂ (λ x y. x + 65536 * y) (low ∙ ap low_part a) (high ∙ ap high_part b) ∙ mod-add-div n 65536

-- counts are those that they have
pub counts-again : (c : Counts) → length c.of ≡ 8 → from_counts (count_in c) ≡ c
counts-again c eight = same_counts (count_in c) _ (λ r lt. count_in-known c r lt) ∙ sym (eight-counts c eight)
