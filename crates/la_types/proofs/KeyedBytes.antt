-- A write under a key comes back from what was submitted, and what other operations are read as.
use Rattle.std.proofs.Common.{◌≡◌, ℕ, ◌<◌, ◌≤◌, ◌^◌, nat_le, Bool, true, false, ◌&&◌, cond, List, [], ◌∷◌, ◌++◌}
use Rattle.std.proofs.Common.{length, take, drop, slice_index, Some, None, Result, Ok, Err, IsOk, IfOk, refl, ap, sym}
use Rattle.std.proofs.Common.{◌∙◌, arith}
use Rattle.std.specs.Option.{option_and_then}
use Rattle.std.specs.Int.{w64, from_le_bytes}
use Rattle.std.proofs.lemmas.Bool.{le-leb, lt-leb, and_from}
use Rattle.std.proofs.lemmas.List.{length-append}
use Rattle.std.proofs.lemmas.Nat.{from_le_bytes-to_le_bytes_8}
use Rattle.la_set.specs.declared.update.UpdateId.{UpdateId}
use Rattle.la_set.specs.declared.update.Op.{Op}
use Rattle.la_own.specs.declared.error.OwnError.{OwnError}
use Rattle.la_own.specs.Own.{AreOwnBytes, own, own_bytes_of}
use Rattle.la_types.specs.Keyed.{Keyed, keyed_bytes, keyed_op, keyed_read, keyed_of}

abbrev found : UpdateId → List ℕ → Keyed
found id bytes = (
  take (slice_index bytes 8) (drop 9 bytes),
  record { stamp = from_le_bytes w64 bytes; id = id; value = drop (slice_index bytes 8) (drop 9 bytes) },
)

module _ (id : UpdateId) (op : Op) where
  pub not_own : None ≡ own_bytes_of op → keyed_of id op ≡ None
  unfolding keyed_of
  not_own none = ap (option_and_then (keyed_read id)) (sym none)

  test : (bytes : List ℕ) (b : Bool) → Some bytes ≡ own_bytes_of op
      → (nat_le 9 (length bytes) && nat_le (slice_index bytes 8) (length (drop 9 bytes))) ≡ b
      → keyed_of id op ≡ cond b (Some (found id bytes)) None
  unfolding keyed_of
  test bytes b is e =
      ap (option_and_then (keyed_read id)) (sym is) ∙ ap (λ t. cond t (Some (found id bytes)) None) e

  pub too_short : (bytes : List ℕ) → Some bytes ≡ own_bytes_of op → length bytes < 9 → keyed_of id op ≡ None
  too_short bytes is short =
      test bytes false is (ap (λ b. b && nat_le (slice_index bytes 8) (length (drop 9 bytes))) (lt-leb 9
      (length bytes) short))

  pub too_long_key : (bytes : List ℕ) → Some bytes ≡ own_bytes_of op → 9 ≤ length bytes
      → length (drop 9 bytes) < slice_index bytes 8 → keyed_of id op ≡ None
  too_long_key bytes is long short =
      test bytes false is (λ i. le-leb 9 (length bytes) long i && lt-leb (slice_index bytes 8) (length
      (drop 9 bytes)) short i)

  pub is_keyed : (bytes : List ℕ) → Some bytes ≡ own_bytes_of op → 9 ≤ length bytes
      → slice_index bytes 8 ≤ length (drop 9 bytes) → keyed_of id op ≡ Some (found id bytes)
  is_keyed bytes is long fits =
      test bytes true is (and_from _ _ (le-leb 9 (length bytes) long) (le-leb (slice_index bytes 8) (length
      (drop 9 bytes)) fits))

key_back : (key value : List ℕ) → take (length key) (key ++ value) ≡ key
key_back [] value = refl
key_back (k ∷ key) value = ap (λ ks. k ∷ ks) (key_back key value)

value_back : (key value : List ℕ) → drop (length key) (key ++ value) ≡ value
value_back [] value = refl
value_back (k ∷ key) value = value_back key value

key_within : (key value : List ℕ) → length key ≤ length (key ++ value)
key_within key value = omega (arith, length-append key value)

pub keyed_back : ((bytes : List ℕ) → AreOwnBytes bytes → own_bytes_of (own bytes) ≡ Some bytes)
    → (stamp : ℕ) (key value : List ℕ) → stamp < 2 ^ 64
    → (r : Result Op OwnError) → (IsOk r → AreOwnBytes (keyed_bytes stamp key value))
    → IfOk r (λ op. op ≡ keyed_op stamp key value)
    → IfOk r (λ op. (id : UpdateId) → keyed_of id op ≡ Some (key, record { stamp = stamp; id = id; value = value }))
keyed_back read stamp key value fits (Ok op) own_bytes is = λ id.
    is_keyed id op (keyed_bytes stamp key value) (sym (ap own_bytes_of is
    ∙ read (keyed_bytes stamp key value) (own_bytes refl))) (omega arith) (key_within key value)
    ∙ (λ i. Some (
      key_back key value i,
      record {
        stamp =
            from_le_bytes-to_le_bytes_8 stamp fits i;
        id = id;
        value = value_back key value i;
      },
    ))
keyed_back read stamp key value fits (Err e) own_bytes is = tt
