-- Counts in two parts: each number's lower 16 bits, and what lies above them.
use Rattle.std.specs.Prelude.{ℕ, ◌+◌, ◌*◌, ◌%◌, ◌/◌, List, slice_index_or}
use Rattle.la_set.specs.declared.counts.Counts.{Counts}
use Rattle.la_set.specs.Counts.{from_counts}

abbrev pub low_part : ℕ → ℕ
low_part n = n % 65536

abbrev pub high_part : ℕ → ℕ
high_part n = n / 65536

-- the counts with these parts
abbrev pub counts_by : (low high : List ℕ) → Counts
counts_by low high =
    from_counts (λ r. slice_index_or low r 0 + 65536 * slice_index_or high r 0)
