-- A write comes back from what was submitted, and what other operations are read as.
use Rattle.std.proofs.Common.{◌≡◌, ℕ, ◌<◌, ◌≤◌, ◌^◌, cond, List, length, drop, Some, None, Result, Ok, Err, IsOk}
use Rattle.std.proofs.Common.{IfOk, refl, ap, sym, ◌∙◌, arith}
use Rattle.std.specs.Option.{option_and_then}
use Rattle.std.specs.Int.{w64, from_le_bytes}
use Rattle.std.proofs.lemmas.Bool.{le-leb, lt-leb}
use Rattle.std.proofs.lemmas.Nat.{from_le_bytes-to_le_bytes_8}
use Rattle.la_set.specs.declared.update.UpdateId.{UpdateId}
use Rattle.la_set.specs.declared.update.Op.{Op}
use Rattle.la_own.specs.declared.error.OwnError.{OwnError}
use Rattle.la_own.specs.Own.{AreOwnBytes, own, own_bytes_of}
use Rattle.la_types.specs.Writes.{write_bytes, write_op, write_read, write_of}

module _ (id : UpdateId) (op : Op) where
  pub not_own : None ≡ own_bytes_of op → write_of id op ≡ None
  unfolding write_of
  not_own none = ap (option_and_then (write_read id)) (sym none)

  pub too_short : (bytes : List ℕ) → Some bytes ≡ own_bytes_of op → length bytes < 8 → write_of id op ≡ None
  unfolding write_of
  too_short bytes is short =
      ap (option_and_then (write_read id)) (sym is)
      ∙ ap (λ b. cond b (Some (record {
        stamp =
            from_le_bytes w64 bytes;
        id = id;
        value = drop 8 bytes;
      })) None) (lt-leb 8 (length bytes) short)

  pub is_write : (bytes : List ℕ) → Some bytes ≡ own_bytes_of op → 8 ≤ length bytes
      → write_of id op ≡ Some (record { stamp = from_le_bytes w64 bytes; id = id; value = drop 8 bytes })
  unfolding write_of
  is_write bytes is long =
      ap (option_and_then (write_read id)) (sym is)
      ∙ ap (λ b. cond b (Some (record {
        stamp =
            from_le_bytes w64 bytes;
        id = id;
        value = drop 8 bytes;
      })) None) (le-leb 8 (length bytes) long)

pub write_back : ((bytes : List ℕ) → AreOwnBytes bytes → own_bytes_of (own bytes) ≡ Some bytes)
    → (stamp : ℕ) (value : List ℕ) → stamp < 2 ^ 64
    → (r : Result Op OwnError) → (IsOk r → AreOwnBytes (write_bytes stamp value))
    → IfOk r (λ op. op ≡ write_op stamp value)
    → IfOk r (λ op. (id : UpdateId) → write_of id op ≡ Some (record { stamp = stamp; id = id; value = value }))
write_back read stamp value fits (Ok op) own_bytes is = λ id.
    is_write id op (write_bytes stamp value) (sym (ap own_bytes_of is
    ∙ read (write_bytes stamp value) (own_bytes refl))) (omega arith)
    ∙ ap (λ n. Some (record { stamp = n; id = id; value = value })) (from_le_bytes-to_le_bytes_8 stamp fits)
write_back read stamp value fits (Err e) own_bytes is = tt
