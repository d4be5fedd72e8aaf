-- What is done under a key comes back from what was submitted, and what other operations are read as.
use Rattle.std.proofs.Common.{◌≡◌, ℕ, ◌<◌, ◌≤◌, nat_le, Bool, true, false, ◌&&◌, cond, List, [], ◌∷◌, ◌++◌, length}
use Rattle.std.proofs.Common.{take, drop, slice_index, Some, None, refl, ap, sym, ◌∙◌}
use Rattle.std.proofs.Common.{arith}
use Rattle.std.specs.Option.{option_and_then}
use Rattle.std.proofs.lemmas.Bool.{le-leb, lt-leb, and_from}
use Rattle.std.proofs.lemmas.List.{length-append}
use Rattle.la_set.specs.declared.update.Op.{Op}
use Rattle.la_own.specs.Own.{own, own_bytes_of}
use Rattle.la_types.specs.KeyedObjects.{part_bytes, part_read, part_in}

abbrev found : List ℕ → List ℕ × Op
found bytes = (
  take (slice_index bytes 0) (drop 1 bytes),
  own (drop (slice_index bytes 0) (drop 1 bytes)),
)

module _ (op : Op) where
  pub not_own : None ≡ own_bytes_of op → part_in op ≡ None
  unfolding part_in
  not_own none = ap (option_and_then part_read) (sym none)

  module _ (bytes : List ℕ) (is : Some bytes ≡ own_bytes_of op) where
    test : (b : Bool) → (nat_le 1 (length bytes) && nat_le (slice_index bytes 0) (length (drop 1 bytes))) ≡ b
        → part_in op ≡ cond b (Some (found bytes)) None
    unfolding part_in
    test b e = ap (option_and_then part_read) (sym is) ∙ ap (λ t. cond t (Some (found bytes)) None) e

    pub too_short : length bytes < 1 → part_in op ≡ None
    too_short short =
        test false (ap (λ b. b && nat_le (slice_index bytes 0) (length (drop 1 bytes))) (lt-leb 1 (length bytes) short))

    pub too_long_key : 1 ≤ length bytes → length (drop 1 bytes) < slice_index bytes 0 → part_in op ≡ None
    too_long_key long short =
        test false (λ i. le-leb 1 (length bytes) long i && lt-leb (slice_index bytes 0) (length (drop 1 bytes)) short i)

    pub is_part : 1 ≤ length bytes → slice_index bytes 0 ≤ length (drop 1 bytes) → part_in op ≡ Some (found bytes)
    is_part long fits =
        test true (and_from _ _ (le-leb 1 (length bytes) long) (le-leb (slice_index bytes 0) (length
        (drop 1 bytes)) fits))

key_back : (key bytes : List ℕ) → take (length key) (key ++ bytes) ≡ key
key_back [] bytes = refl
key_back (k ∷ key) bytes = ap (λ ks. k ∷ ks) (key_back key bytes)

bytes_back : (key bytes : List ℕ) → drop (length key) (key ++ bytes) ≡ bytes
bytes_back [] bytes = refl
bytes_back (k ∷ key) bytes = bytes_back key bytes

key_within : (key bytes : List ℕ) → length key ≤ length (key ++ bytes)
key_within key bytes = omega (arith, length-append key bytes)

pub part_back : (key bytes : List ℕ) (op : Op) → Some (part_bytes key bytes) ≡ own_bytes_of op
    → part_in op ≡ Some (key, own bytes)
part_back key bytes op is =
    is_part op (part_bytes key bytes) is (omega arith) (key_within key bytes)
    ∙ (λ i. Some (key_back key bytes i, own (bytes_back key bytes i)))
