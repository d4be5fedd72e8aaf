-- A flag that is on where some enabling was not seen by any disabling: enablings win over
-- disablings that were made at the same time.
use Rattle.std.specs.Prelude.{ℕ, ◌==◌, Bool, true, false, not, ◌&&◌, nat_lt, List, [], ◌∷◌, length, drop, slice_index}
use Rattle.std.specs.Prelude.{Option, Some, None, if◌then◌else◌}
use Rattle.std.specs.List.{list_any, range_with_len}
use Rattle.std.specs.Option.{option_and_then}
use Rattle.la_set.specs.declared.update.UpdateId.{UpdateId}
use Rattle.la_set.specs.declared.update.Op.{Op}
use Rattle.la_set.specs.declared.update.Update.{Update}
use Rattle.la_set.specs.Counts.{count_in, zero_counts}
use Rattle.la_own.specs.Own.{own, own_bytes_of}
use Rattle.la_shelf.specs.Meanings.{Meaning}
use Rattle.la_types.specs.declared.flag.FlagOp.{FlagOp}
use Rattle.la_types.specs.declared.flag.FlagOp.TheVariants.{Enable, Disable}
use Rattle.la_types.specs.declared.flag.FlagState.{FlagState}
use Rattle.la_types.specs.Seen.{has_seen, seen_by_either, up_to, is_update_id}
use Rattle.la_types.specs.Bytes.{counts_bytes, counts_in, plain}

-- ## Operations

-- one byte says what is done, and a disabling says behind it what its maker had seen
abbrev pub flag_bytes : FlagOp → List ℕ
flag_bytes Enable = 1 ∷ []
flag_bytes (Disable seen) = 2 ∷ counts_bytes seen

abbrev pub flag_read : List ℕ → Option FlagOp
flag_read bytes =
    if (length bytes == 1) && (slice_index bytes 0 == 1) then Some Enable
    else (if (length bytes == 33) && (slice_index bytes 0 == 2) then Some (Disable (counts_in (drop 1 bytes)))
    else None)

-- the operation that does it
abbrev pub flag_op : FlagOp → Op
flag_op does = own (flag_bytes does)

-- what an operation does to a flag, where it is one of a flag's
unfoldable pub flag_of : Op → Option FlagOp
flag_of op = option_and_then flag_read (own_bytes_of op)

-- the operation with the same eight numbers
abbrev pub plain_flag_op : FlagOp → FlagOp
plain_flag_op Enable = Enable
plain_flag_op (Disable seen) = Disable (plain seen)

-- ## Value

abbrev pub enables : Option FlagOp → Bool
enables (Some Enable) = true
enables _ = false

-- an update enables
abbrev pub is_enabling : Update → Bool
is_enabling u = is_update_id u.id && enables (flag_of u.op)

-- a disabling had seen the update with this id
abbrev pub disables : Option FlagOp → UpdateId → Bool
disables (Some (Disable seen)) id = has_seen seen id
disables _ id = false

-- among updates is an enabling that no disabling of them had seen
abbrev pub is_flag_on : List Update → Bool
is_flag_on us = list_any (λ u. is_enabling u && not (list_any (λ v. disables (flag_of v.op) u.id) us)) us

-- ## State

abbrev pub flag_start : FlagState
flag_start = record { enabled = zero_counts; seen = zero_counts }

abbrev pub flag_step : FlagState → UpdateId → Option FlagOp → FlagState
flag_step s id None = s
flag_step s id (Some Enable) = record s { enabled = seen_by_either s.enabled (up_to id) }
flag_step s id (Some (Disable seen)) = record s { seen = seen_by_either s.seen seen }

-- of some replica an update enabled that was not seen
abbrev pub is_ahead : FlagState → Bool
is_ahead s = list_any (λ r. nat_lt (count_in s.seen r) (count_in s.enabled r)) (range_with_len 0 8)

abbrev pub flag_meaning : Meaning (Unit {0}) FlagState (Unit {0}) Bool
flag_meaning = record {
  start = λ kind. flag_start;
  kind_of = λ s. tt;
  after = λ s u. flag_step s u.id (flag_of u.op);
  reply = λ s question. is_ahead s;
  value = λ kind us question. is_flag_on us;
  in_place = λ kind question. true;
}
