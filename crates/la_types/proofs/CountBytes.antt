-- Counts that are written come back.
use Rattle.std.proofs.Common.{◌≡◌, ℕ, zero, suc, ◌+◌, ◌*◌, ◌<◌, List, [], ◌∷◌, ◌++◌, length, ap, sym, ◌∙◌, arith}
use Rattle.std.proofs.Common.{append_assoc, refl}
use Rattle.std.specs.List.{flat_map, range_with_len}
use Rattle.std.specs.Int.{w32, to_le_bytes, from_le_bytes}
use Rattle.std.proofs.lemmas.Nat.{from_le_bytes-to_le_bytes_4}
use Rattle.std.proofs.lemmas.List.{length-append}
use Rattle.std.proofs.lemmas.List.Concat.{flat_map-append}
use Rattle.la_set.specs.declared.counts.Counts.{Counts}
use Rattle.la_set.specs.Counts.{count_in, from_counts}
use Rattle.la_types.specs.Bytes.{count_bytes, counts_bytes, counts_in, plain}

append_nil : (xs : List ℕ) → xs ++ [] ≡ xs
append_nil [] = refl
append_nil (x ∷ xs) = ap (λ ys. x ∷ ys) (append_nil xs)

pub range_more : (a n : ℕ) → range_with_len a (suc n) ≡ range_with_len a n ++ (a + n) ∷ []
range_more a zero = ap (λ j. j ∷ []) {x = a} {y = a + 0} (omega arith)
range_more a (suc n) =
    ap (λ js. a ∷ js) (range_more (a + 1) n
    ∙ ap (λ j. range_with_len (a + 1) n ++ j ∷ []) {x = a + 1 + n} {y = a + suc n} (omega arith))

pub put_more : (before : List ℕ) (counts : Counts) (r : ℕ)
    → before ++ flat_map (count_bytes counts) (range_with_len 0 (r + 1))
    ≡ (before ++ flat_map (count_bytes counts) (range_with_len 0 r)) ++ count_bytes counts r
put_more before counts r =
    ap (λ n. before ++ flat_map (count_bytes counts) (range_with_len 0 n)) {x = r + 1} {y = suc r} (omega arith)
    ∙ ap (λ rs. before ++ flat_map (count_bytes counts) rs) (range_more 0 r
    ∙ ap (λ j. range_with_len 0 r ++ j ∷ []) {x = 0 + r} {y = r} (omega arith))
    ∙ ap (λ bytes. before ++ bytes) (flat_map-append (count_bytes counts) (range_with_len 0 r) (r ∷ []))
    ∙ ap (λ bytes. before ++ (flat_map (count_bytes counts) (range_with_len 0 r) ++ bytes)) (append_nil
    (count_bytes counts r))
    ∙ sym (append_assoc before (flat_map (count_bytes counts) (range_with_len 0 r)) (count_bytes counts r))

four_each : (counts : Counts) (a r : ℕ) → length (flat_map (count_bytes counts) (range_with_len a r)) ≡ 4 * r
four_each counts a zero = refl
four_each counts a (suc r) = omega (arith, four_each counts (a + 1) r)

pub put_length : (before : List ℕ) (counts : Counts) (r : ℕ)
    → length (before ++ flat_map (count_bytes counts) (range_with_len 0 r)) ≡ length before + 4 * r
put_length before counts r =
    omega (arith, length-append before (flat_map (count_bytes counts) (range_with_len 0 r)), four_each counts 0 r)

pub counts_back : (counts : Counts) → ((r : ℕ) → r < 8 → count_in counts r < 4294967296)
    → counts_in (counts_bytes counts) ≡ plain counts
unfolding from_counts
counts_back counts small i = record {
  of = back 0 (omega arith) i ∷ back 1 (omega arith) i ∷ back 2 (omega arith) i ∷ back 3 (omega arith) i
      ∷ back 4 (omega arith) i ∷ back 5 (omega arith) i ∷ back 6 (omega arith) i ∷ back 7 (omega arith) i ∷ [];
}
  where
    back : (r : ℕ) → r < 8 → from_le_bytes w32 (to_le_bytes w32 (count_in counts r)) ≡ count_in counts r
    back r lt = from_le_bytes-to_le_bytes_4 (count_in counts r) (small r lt)
