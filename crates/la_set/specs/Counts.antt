-- How many updates of each replica there are, apart from the updates.
use Rattle.std.specs.Prelude.{ℕ, ◌≤◌, nat_lt, [], ◌∷◌, take, slice_index_or, if◌then◌else◌}
use Rattle.la_set.specs.declared.set.TheConstants.{REPLICAS}
use Rattle.la_set.specs.declared.counts.Counts.{Counts}
use Rattle.la_set.specs.Histories.{Histories, history, from_histories, count}

-- the number of a replica: 0, from replica 8 on
unfoldable pub count_in : Counts → ℕ → ℕ
count_in c r = if nat_lt r REPLICAS then slice_index_or c.of r 0 else 0

-- the counts with these numbers
unfoldable pub from_counts : (ℕ → ℕ) → Counts
from_counts f = record { of = f 0 ∷ f 1 ∷ f 2 ∷ f 3 ∷ f 4 ∷ f 5 ∷ f 6 ∷ f 7 ∷ [] }

abbrev pub zero_counts : Counts
zero_counts = from_counts (λ r. 0)

-- how many a set has
abbrev pub counts_of : Histories → Counts
counts_of s = from_counts (count s)

-- of each replica a set has so many updates, or more
abbrev pub HasCounts : Histories → Counts → Type 0
HasCounts s c = (r : ℕ) → count_in c r ≤ count s r

-- of each replica a set's first so many updates
unfoldable pub within : Histories → Counts → Histories
within s c = from_histories (λ r. take (count_in c r) (history s r))
