-- Writes under keys: of each key the last.
use Rattle.std.specs.Prelude.{ℕ, nat_le, ◌&&◌, List, ◌∷◌, ◌++◌, length, take, drop, slice_index, Option}
use Rattle.std.specs.Prelude.{Some, None, refl, if◌then◌else◌}
use Rattle.std.specs.List.{filter_map}
use Rattle.std.specs.Option.{option_and_then}
use Rattle.std.specs.Int.{w64, to_le_bytes, from_le_bytes}
use Rattle.std.specs.Ordering.{nat_cmp, eq_by_cmp}
use Rattle.std.specs.Cmp.Lexicographic.{slice_cmp}
use Rattle.std.specs.Coded.{Coded, code_by, coded×, coded_ℕ, coded_list}
use Rattle.std.specs.FinMap as map
use Rattle.la_set.specs.declared.update.UpdateId.{UpdateId}
use Rattle.la_set.specs.declared.update.Op.{Op}
use Rattle.la_set.specs.declared.update.Update.{Update}
use Rattle.la_own.specs.Own.{own, own_bytes_of}
use Rattle.la_types.specs.declared.write.Write.{Write}
use Rattle.la_types.specs.Writes.{later}

-- ## Finite maps from keys to writes

-- bytes in the order of a dictionary
abbrev pub KeyedWrites : Type 0
KeyedWrites = map.FinMap (slice_cmp nat_cmp) Write

abbrev pub write_code : Coded Write
write_code =
    code_by (ℕ × ((ℕ × ℕ) × List ℕ)) (coded× coded_ℕ (coded× (coded× coded_ℕ coded_ℕ) (coded_list coded_ℕ)))
    (λ w. (w.stamp, ((w.id.replica, w.id.number), w.value)))
    (λ p. record { stamp = p.0; id = record { replica = p.1.0.0; number = p.1.0.1 }; value = p.1.1 }) (λ _. refl)

abbrev pub keyed_code : Coded KeyedWrites
keyed_code = map.code (coded_list coded_ℕ) write_code

-- a write under a key
abbrev pub Keyed : Type 0
Keyed = List ℕ × Write

-- the write itself, or the later one of two
abbrev pub or_later : Option Write → Write → Write
or_later None write = write
or_later (Some last) write = later last write

abbrev pub with_keyed : KeyedWrites → Option Keyed → KeyedWrites
with_keyed m None = m
with_keyed m (Some keyed) = map.insert m keyed.0 (or_later (map.get m keyed.0) keyed.1)

-- the write, where it is under this key
abbrev pub write_under : List ℕ → Option Keyed → Option Write
write_under key None = None
write_under key (Some keyed) = if eq_by_cmp (slice_cmp nat_cmp) key keyed.0 then Some keyed.1 else None

-- ## Operations

-- a stamp in eight bytes, how long the key is, the key, and then the value
abbrev pub keyed_bytes : ℕ → List ℕ → List ℕ → List ℕ
keyed_bytes stamp key value = to_le_bytes w64 stamp ++ (length key ∷ (key ++ value))

-- the operation that writes a value for a key under a stamp
abbrev pub keyed_op : ℕ → List ℕ → List ℕ → Op
keyed_op stamp key value = own (keyed_bytes stamp key value)

abbrev pub keyed_read : UpdateId → List ℕ → Option Keyed
keyed_read id bytes =
    if nat_le 9 (length bytes) && nat_le (slice_index bytes 8) (length (drop 9 bytes))
    then Some (
      take (slice_index bytes 8) (drop 9 bytes),
      record {
        stamp =
            from_le_bytes w64 bytes;
        id = id;
        value = drop (slice_index bytes 8) (drop 9 bytes);
      },
    )
    else None

-- what an update with this operation writes, and under which key, where it is such a write
unfoldable pub keyed_of : UpdateId → Op → Option Keyed
keyed_of id op = option_and_then (keyed_read id) (own_bytes_of op)

-- what updates write under a key
abbrev pub writes_under : List ℕ → List Update → List Write
writes_under key us = filter_map (λ u. write_under key (keyed_of u.id u.op)) us
