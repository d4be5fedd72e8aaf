-- Writes of bytes, and the last of some: by their stamps, and where stamps are equal by the ids of
-- the updates that made them.
use Rattle.std.specs.Prelude.{ℕ, ◌==◌, nat_lt, nat_le, Bool, not, ◌&&◌, ◌||◌, List, ◌++◌, length, drop, Option, Some}
use Rattle.std.specs.Prelude.{None, option_map, if◌then◌else◌}
use Rattle.std.specs.List.{list_any, find}
use Rattle.std.specs.Option.{option_and_then}
use Rattle.std.specs.Int.{w64, to_le_bytes, from_le_bytes}
use Rattle.la_set.specs.declared.update.UpdateId.{UpdateId}
use Rattle.la_set.specs.declared.update.Op.{Op}
use Rattle.la_set.specs.Ids.{id_below}
use Rattle.la_own.specs.Own.{own, own_bytes_of}
use Rattle.la_types.specs.declared.write.Write.{Write}

-- the first stamp and id come before the second
abbrev pub is_before : ℕ → UpdateId → ℕ → UpdateId → Bool
is_before stamp id other other_id = nat_lt stamp other || ((stamp == other) && id_below id other_id)

-- the first write comes before the second
abbrev pub precedes : Write → Write → Bool
precedes one other = is_before one.stamp one.id other.stamp other.id

-- of some writes the one that comes before none of them
abbrev pub last_write : List Write → Option Write
last_write writes = find (λ one. not (list_any (precedes one) writes)) writes

-- the later of two writes
abbrev pub later : Write → Write → Write
later one other = if precedes one other then other else one

-- the last write so far, and then one more
abbrev pub with_write : Option Write → Option Write → Option Write
with_write last None = last
with_write None (Some write) = Some write
with_write (Some last) (Some write) = Some (later last write)

abbrev pub value_in : Option Write → Option (List ℕ)
value_in last = option_map (λ (write : Write). write.value) last

-- ## Operations

-- a stamp in eight bytes, the lowest first, and then the value
abbrev pub write_bytes : ℕ → List ℕ → List ℕ
write_bytes stamp value = to_le_bytes w64 stamp ++ value

-- the operation that writes a value under a stamp
abbrev pub write_op : ℕ → List ℕ → Op
write_op stamp value = own (write_bytes stamp value)

-- the write that these bytes are, where an update with this id has them
abbrev pub write_read : UpdateId → List ℕ → Option Write
write_read id bytes =
    if nat_le 8 (length bytes) then Some (record { stamp = from_le_bytes w64 bytes; id = id; value = drop 8 bytes })
    else None

-- what an update with this operation writes, where it is a write
unfoldable pub write_of : UpdateId → Op → Option Write
write_of id op = option_and_then (write_read id) (own_bytes_of op)
