-- What is written into tags is read back.
use Rattle.std.proofs.Common.{◌≡◌, ℕ, zero, suc, ◌+◌, ◌*◌, ◌/◌, ◌%◌, ◌<◌, ◌≤◌, List, [], ◌∷◌, ◌++◌, length}
use Rattle.std.proofs.Common.{drop, map}
use Rattle.std.proofs.Common.{get_or, All, refl, ap, sym, ◌∙◌, subst, inl, inr, arith}
use Rattle.std.specs.Int.{w32, to_le_bytes}
use Rattle.std.specs.List.{range_with_len}
use Rattle.std.proofs.lemmas.Bool.{cases_lt}
use Rattle.std.proofs.lemmas.List.{get_or-drop, get_or_past, get_or_default}
use Rattle.std.proofs.lemmas.List.FromFn.{fill_by_all, get_or-map-range_with_len, length-map-range_with_len}
use Rattle.std.proofs.lemmas.List.FromFn.{map-range_with_len_more}
use Rattle.std.proofs.lemmas.Nat.{le_bytes_4}
use Rattle.la_set.specs.declared.update.UpdateId.{UpdateId}
use Rattle.la_set.specs.Ids.{IsBelow}
use Rattle.la_own.specs.Own.{AreOwnBytes, word_count, word_at, length_tag, word_tag, own_tags, no_tag, word_of}
use Rattle.la_own.specs.Own.{byte_at, told_length, bytes_in}
use Rattle.la_own.specs.declared.own.TheConstants.{OWN_BYTES}
use Rattle.la_own.proofs.Tags.{own_tags-at}

module _ (bytes : List ℕ) (small : All (λ byte. byte < 256) bytes) where
  byte_small : (k : ℕ) → get_or bytes k 0 < 256
  byte_small k = elim (cases_lt k (length bytes)) [
    | inl lt ↦ small k 0 lt
    | inr ge ↦ omega (arith, get_or_past bytes k 0 ge)
  ]

  byte_behind : (from k : ℕ) → get_or (drop from bytes) k 0 < 256
  byte_behind from k = omega (arith, byte_small (from + k), get_or-drop from bytes k 0)

  -- the four bytes of a word
  four : ℕ → List ℕ
  four from =
      get_or (drop from bytes) 0 0 ∷ get_or (drop from bytes) 1 0 ∷ get_or (drop from bytes) 2 0 ∷ get_or
      (drop from bytes) 3 0 ∷ []

  four_small : (from k : ℕ) → get_or (four from) k 0 < 256
  unfolding four
  four_small from zero = byte_behind from 0
  four_small from (suc zero) = byte_behind from 1
  four_small from (suc (suc zero)) = byte_behind from 2
  four_small from (suc (suc (suc zero))) = byte_behind from 3
  four_small from (suc (suc (suc (suc k)))) = omega arith

  word_bytes : (place : ℕ) → to_le_bytes w32 (word_at bytes place) ≡ four (4 * place)
  unfolding four
  word_bytes place = le_bytes_4 (four (4 * place)) (word_at bytes place) refl (four_small (4 * place)) refl

  word_small : (place : ℕ) → word_at bytes place < 4294967296
  word_small place =
      omega
      (arith, byte_behind (4 * place) 0, byte_behind (4 * place) 1, byte_behind (4 * place) 2, byte_behind (4 * place) 3)

  four_at : (from k : ℕ) → k < 4 → get_or (four from) k 0 ≡ get_or (drop from bytes) k 0
  unfolding four
  four_at from zero lt = refl
  four_at from (suc zero) lt = refl
  four_at from (suc (suc zero)) lt = refl
  four_at from (suc (suc (suc zero))) lt = refl
  four_at from (suc (suc (suc (suc k)))) lt = absurd (omega arith)

word_back : (place w : ℕ) → w < 4294967296
    → word_of (record { replica = 10 + 2 * place + w / 2147483648; number = w % 2147483648 + 1 }) ≡ w
word_back place w small = omega arith

module _ (bytes : List ℕ) (own : AreOwnBytes bytes) where
  read_back : (k : ℕ) → k < length bytes → get_or bytes k 0 ≡ byte_at (own_tags bytes) k
  read_back k lt =
      let place = k / 4 in
      let tag : get_or (own_tags bytes) (k / 4 + 1) no_tag ≡ word_tag bytes place =
      own_tags-at bytes place (omega arith) in
      let word : word_of (get_or (own_tags bytes) (k / 4 + 1) no_tag) ≡ word_at bytes place =
      ap word_of tag ∙ word_back place (word_at bytes place) (word_small bytes own.small place) in
      let at : 4 * place + k % 4 ≡ k = omega arith in
      sym (
      ap (λ w. get_or (to_le_bytes w32 w) (k % 4) 0) word
      ∙ ap (λ bs. get_or bs (k % 4) 0) (word_bytes bytes own.small place)
      ∙ four_at bytes own.small (4 * place) (k % 4) (omega arith)
      ∙ get_or-drop (4 * place) bytes (k % 4) 0
      ∙ ap (λ j. get_or bytes j 0) at)

  pub told_back : told_length (own_tags bytes) ≡ length bytes
  told_back = omega arith

  pub bytes_back : bytes_in (own_tags bytes) ≡ bytes
  bytes_back =
      ap (λ n. map (byte_at (own_tags bytes)) (range_with_len 0 n)) told_back
      ∙ sym (fill_by_all (byte_at (own_tags bytes)) bytes (length bytes) 0 refl read_back)

-- the tags of the first words are below that of the next
pub tags_below : (bytes : List ℕ) → AreOwnBytes bytes → (count : ℕ)
    → All (λ tag. IsBelow tag (word_tag bytes count)) (length_tag bytes ∷ map (word_tag bytes) (range_with_len 0 count))
tags_below bytes own count zero d lt = inl (omega arith)
tags_below bytes own count (suc k) d lt =
    let within : k < count = omega (arith, length-map-range_with_len (word_tag bytes) 0 count) in
    let small : word_at bytes k < 4294967296 = word_small bytes own.small k in
    let below : IsBelow (word_tag bytes k) (word_tag bytes count) = inl (omega arith) in
    subst (λ tag. IsBelow tag (word_tag bytes count))
    (sym (get_or-map-range_with_len (word_tag bytes) 0 count k k d within (omega arith))) below

-- each tag has a replica of 8 bits, and a number of 32 bits from 1
pub own_tags-fit : (bytes : List ℕ) → AreOwnBytes bytes
    → All (λ tag. (tag.replica < 256) × (1 ≤ tag.number) × (tag.number < 4294967296)) (own_tags bytes)
own_tags-fit bytes own zero d lt = (omega arith, omega arith, omega (arith, own.few))
own_tags-fit bytes own (suc k) d lt =
    let within : k < word_count bytes =
    omega (arith, length-map-range_with_len (word_tag bytes) 0 (word_count bytes)) in
    let small : word_at bytes k < 4294967296 = word_small bytes own.small k in
    let few : word_count bytes ≤ 62 = omega (arith, own.few) in
    let fits : (10 + 2 * k + word_at bytes k / 2147483648 < 256) × (1 ≤ word_at bytes k % 2147483648 + 1)
    × (word_at bytes k % 2147483648 + 1 < 4294967296) = (omega arith, omega arith, omega arith) in
    subst (λ tag. (tag.replica < 256) × (1 ≤ tag.number) × (tag.number < 4294967296))
    (sym (get_or-map-range_with_len (word_tag bytes) 0 (word_count bytes) k k d within (omega arith))) fits

-- what tags carry is bytes
byte_at-small : (tags : List UpdateId) (place : ℕ) → byte_at tags place < 256
byte_at-small tags place = byte_of_word (word_of (get_or tags (place / 4 + 1) no_tag)) (place % 4) (omega arith)
  where
    byte_of_word : (w k : ℕ) → k < 4 → get_or (to_le_bytes w32 w) k 0 < 256
    byte_of_word w zero lt = omega arith
    byte_of_word w (suc zero) lt = omega arith
    byte_of_word w (suc (suc zero)) lt = omega arith
    byte_of_word w (suc (suc (suc zero))) lt = omega arith
    byte_of_word w (suc (suc (suc (suc k)))) lt = absurd (omega arith)

pub bytes_in-small : (tags : List UpdateId) → told_length tags ≤ OWN_BYTES → AreOwnBytes (bytes_in tags)
bytes_in-small tags few = record {
  few = omega (arith, length-map-range_with_len (byte_at tags) 0 (told_length tags));
  small = λ k d lt.
      let within : k < told_length tags =
      omega (arith, length-map-range_with_len (byte_at tags) 0 (told_length tags)) in
      omega
      (arith, byte_at-small tags k, get_or-map-range_with_len (byte_at tags) 0 (told_length tags) k k d within (omega arith));
}

-- what fits a byte each
pub bytes_are_own : (bytes : List ℕ) → length bytes ≤ OWN_BYTES → ((k : ℕ) → get_or bytes k 0 < 256)
    → AreOwnBytes bytes
bytes_are_own bytes few small = record {
  few = few;
  small = λ k d lt. omega (arith, small k, get_or_default bytes k d 0 lt);
}

-- ## Four bytes at a time

four_more : (xs : List ℕ) (a b c d : ℕ)
    → (((xs ++ a ∷ []) ++ b ∷ []) ++ c ∷ []) ++ d ∷ [] ≡ xs ++ a ∷ b ∷ c ∷ d ∷ []
four_more [] a b c d = refl
four_more (x ∷ xs) a b c d = ap (λ rest. x ∷ rest) (four_more xs a b c d)

module _ (tags : List UpdateId) (place : ℕ) where
  byte_of : (from k : ℕ) → from ≡ 4 * place + k → k < 4
      → byte_at tags from ≡ get_or (to_le_bytes w32 (word_of (get_or tags (place + 1) no_tag))) k 0
  byte_of from k at lt =
      let quotient : from / 4 ≡ place = omega (arith, at) in
      let rest : from % 4 ≡ k = omega (arith, at) in
      λ i. get_or (to_le_bytes w32 (word_of (get_or tags (quotient i + 1) no_tag))) (rest i) 0

  next : (k m : ℕ) → m ≡ k + 1 → (xs : List ℕ) → map (byte_at tags) (range_with_len 0 k) ≡ xs
      → map (byte_at tags) (range_with_len 0 m) ≡ xs ++ byte_at tags k ∷ []
  next k m more xs is =
      ap (λ j. map (byte_at tags) (range_with_len 0 j)) more
      ∙ map-range_with_len_more (byte_at tags) 0 k k (omega arith)
      ∙ ap (λ ys. ys ++ byte_at tags k ∷ []) is

  -- so many words' bytes, and those of the next
  pub word_more : map (byte_at tags) (range_with_len 0 (4 * (place + 1)))
      ≡ map (byte_at tags) (range_with_len 0 (4 * place))
      ++ to_le_bytes w32 (word_of (get_or tags (place + 1) no_tag))
  word_more =
      let n = 4 * place in
      next (n + 3) (4 * (place + 1)) (omega arith) _ (next (n + 2) (n + 3) (omega arith) _
      (next (n + 1) (n + 2) (omega arith) _ (next n (n + 1) (omega arith) _ refl)))
      ∙ four_more _ _ _ _ _
      ∙ (λ i. map (byte_at tags) (range_with_len 0 n)
      ++ byte_of n 0 (omega arith) (omega arith) i
      ∷ byte_of (n + 1) 1 (omega arith) (omega arith) i
      ∷ byte_of (n + 2) 2 (omega arith) (omega arith) i
      ∷ byte_of (n + 3) 3 (omega arith) (omega arith) i ∷ [])
