-- A map from keys to objects of one type that begin alike: under each key it answers as an object of that type does by
-- the updates under the key.
use Rattle.std.specs.Prelude.{ℕ, nat_le, ◌&&◌, List, ◌∷◌, ◌++◌, length, take, drop, slice_index, Option}
use Rattle.std.specs.Prelude.{Some, None, option_map, unwrap_or, if◌then◌else◌}
use Rattle.std.specs.List.{filter_map}
use Rattle.std.specs.Option.{option_and_then}
use Rattle.std.specs.FinMap as map
use Rattle.la_set.specs.declared.update.Op.{Op}
use Rattle.la_set.specs.declared.update.Update.{Update}
use Rattle.la_own.specs.Own.{own, own_bytes_of}
use Rattle.la_shelf.specs.Meanings.{Meaning}
use Rattle.la_types.specs.ByteSets.{is_this}
use Rattle.la_types.specs.KeyMaps.{KeyMap}

-- ## Operations

-- how long the key is, the key, and then the bytes of the operation that is done under it
abbrev pub part_bytes : List ℕ → List ℕ → List ℕ
part_bytes key bytes = length key ∷ (key ++ bytes)

abbrev pub part_read : List ℕ → Option (List ℕ × Op)
part_read bytes =
    if nat_le 1 (length bytes) && nat_le (slice_index bytes 0) (length (drop 1 bytes))
    then Some (take (slice_index bytes 0) (drop 1 bytes), own (drop (slice_index bytes 0) (drop 1 bytes)))
    else None

-- the key under which an operation does something, and the operation that is done there
unfoldable pub part_in : Op → Option (List ℕ × Op)
part_in op = option_and_then part_read (own_bytes_of op)

-- an update under a key
abbrev pub Part : Type 0
Part = List ℕ × Update

-- the update with this id, of what is done under a key
abbrev pub part_of : Update → Option Part
part_of u = option_map (λ p. (p.0, record u { op = p.1 })) (part_in u.op)

-- the update, where it is under this key
abbrev pub part_under : List ℕ → Option Part → Option Update
part_under key None = None
part_under key (Some part) = if is_this key part.0 then Some part.1 else None

-- what updates do under a key
abbrev pub updates_under : List ℕ → List Update → List Update
updates_under key us = filter_map (λ u. part_under key (part_of u)) us

-- ## Meaning

module _ {S Q A : Type 0} (m : Meaning (Unit {0}) S Q A) where
  -- the state under a key, which is the start before an update there
  abbrev pub state_under : KeyMap S → List ℕ → S
  state_under s key = unwrap_or (map.get s key) (m.start tt)

  abbrev pub with_part : KeyMap S → Option Part → KeyMap S
  with_part s None = s
  with_part s (Some part) = map.insert s part.0 (m.after (state_under s part.0) part.1)

  -- the object under its key takes an update no more
  abbrev pub part_full : (full : S → Update → Type 0) → KeyMap S → Option Part → Type 0
  part_full full s None = ⊥
  part_full full s (Some part) = full (state_under s part.0) part.1

  abbrev pub keyed_full : (full : S → Update → Type 0) → KeyMap S → Update → Type 0
  keyed_full full s u = part_full full s (part_of u)

  abbrev pub keyed_meaning : Meaning (Unit {0}) (KeyMap S) (List ℕ × Q) A
  keyed_meaning = record {
    start = λ kind. map.empty;
    kind_of = λ s. tt;
    after = λ s u. with_part s (part_of u);
    reply = λ s query. m.reply (state_under s query.0) query.1;
    value = λ kind us query. m.value tt (updates_under query.0 us) query.1;
    in_place = λ kind query. m.in_place tt query.1;
  }
