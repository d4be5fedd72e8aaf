-- How what operations carry is written as bytes.
use Rattle.std.specs.Prelude.{ℕ, ◌*◌, List, drop}
use Rattle.std.specs.List.{range_with_len, flat_map}
use Rattle.std.specs.Int.{w32, to_le_bytes, from_le_bytes}
use Rattle.la_set.specs.declared.counts.Counts.{Counts}
use Rattle.la_set.specs.Counts.{count_in, from_counts}

-- eight counts: four bytes each, the lowest first
abbrev pub count_bytes : Counts → ℕ → List ℕ
count_bytes counts r = to_le_bytes w32 (count_in counts r)

abbrev pub counts_bytes : Counts → List ℕ
counts_bytes counts = flat_map (count_bytes counts) (range_with_len 0 8)

-- the same eight numbers, as of a set
abbrev pub plain : Counts → Counts
plain counts = from_counts (count_in counts)

-- the counts that bytes begin with
abbrev pub counts_in : List ℕ → Counts
counts_in bytes = from_counts (λ r. from_le_bytes w32 (drop (4 * r) bytes))
