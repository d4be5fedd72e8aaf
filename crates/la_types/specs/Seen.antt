-- What the maker of an update had seen, as eight counts. A view has each replica's updates from the
-- first on without a gap, so of each replica the number of its last one says them all.
use Rattle.std.specs.Prelude.{◌==◌, nat_le, nat_lt, Bool, ◌&&◌, max, if◌then◌else◌}
use Rattle.la_set.specs.declared.set.TheConstants.{REPLICAS}
use Rattle.la_set.specs.declared.update.UpdateId.{UpdateId}
use Rattle.la_set.specs.declared.counts.Counts.{Counts}
use Rattle.la_set.specs.Counts.{count_in, from_counts}

-- whether the update with this id was seen
abbrev pub has_seen : Counts → UpdateId → Bool
has_seen seen id = nat_le id.number (count_in seen id.replica)

-- what either saw
abbrev pub seen_by_either : Counts → Counts → Counts
seen_by_either one other = from_counts (λ r. max (count_in one r) (count_in other r))

-- the update with this id, and those of its replica before it
abbrev pub up_to : UpdateId → Counts
up_to id = from_counts (λ r. if r == id.replica then id.number else 0)

-- whether an update can have the id
abbrev pub is_update_id : UpdateId → Bool
is_update_id id = nat_lt id.replica REPLICAS && nat_lt 0 id.number
