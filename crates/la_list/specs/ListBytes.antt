-- How what is done to a list is written as bytes, and read.
use Rattle.std.specs.Prelude.{ℕ, ◌==◌, nat_le, ◌&&◌, List, ◌∷◌, ◌++◌, length, drop, slice_index, Option, Some, None}
use Rattle.std.specs.Prelude.{if◌then◌else◌}
use Rattle.std.specs.Option.{option_and_then}
use Rattle.std.specs.Int.{w32, w64, to_le_bytes, from_le_bytes}
use Rattle.la_set.specs.declared.update.UpdateId.{UpdateId}
use Rattle.la_set.specs.declared.update.Op.{Op}
use Rattle.la_own.specs.Own.{own, own_bytes_of}
use Rattle.la_list.specs.declared.op.ListOp.{ListOp}
use Rattle.la_list.specs.declared.op.ListOp.TheVariants.{Insert, Delete}

-- an id: its replica, and its number in four bytes, the lowest first
abbrev pub id_bytes : UpdateId → List ℕ
id_bytes id = id.replica ∷ to_le_bytes w32 id.number

-- the id that bytes begin with
abbrev pub id_in : List ℕ → UpdateId
id_in bytes = record { replica = slice_index bytes 0; number = from_le_bytes w32 (drop 1 bytes) }

-- that something is put in, the stamp in eight bytes, and behind what
abbrev pub place_bytes : Option UpdateId → ℕ → List ℕ
place_bytes None stamp = 1 ∷ to_le_bytes w64 stamp
place_bytes (Some id) stamp = 2 ∷ (to_le_bytes w64 stamp ++ id_bytes id)

abbrev pub edit_bytes : ListOp → List ℕ
edit_bytes (Insert behind stamp value) = place_bytes behind stamp ++ value
edit_bytes (Delete element) = 3 ∷ id_bytes element

-- the operation that does it
abbrev pub edit_op : ListOp → Op
edit_op does = own (edit_bytes does)

abbrev pub edit_read : List ℕ → Option ListOp
edit_read bytes =
    if nat_le 9 (length bytes) && (slice_index bytes 0 == 1)
    then Some (Insert None (from_le_bytes w64 (drop 1 bytes)) (drop 9 bytes))
    else (if nat_le 14 (length bytes) && (slice_index bytes 0 == 2)
    then Some (Insert (Some (id_in (drop 9 bytes))) (from_le_bytes w64 (drop 1 bytes)) (drop 14 bytes))
    else (if (length bytes == 6) && (slice_index bytes 0 == 3)
    then Some (Delete (id_in (drop 1 bytes)))
    else None))

-- what an operation does to a list, where it is one of theirs
unfoldable pub edit_of : Op → Option ListOp
edit_of op = option_and_then edit_read (own_bytes_of op)
