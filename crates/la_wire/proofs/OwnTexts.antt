-- The bytes of an operation of one's own, written and read back.
use Rattle.std.proofs.Common.{◌≡◌, ℕ, ◌/◌, ◌%◌, ◌<◌, ◌≤◌, true, false, cond, List, [], ◌∷◌}
use Rattle.std.proofs.Common.{length, All, Ok, Err, slice_index, codes, refl, sym, ap, ◌∙◌, arith, subst, inl, inr}
use Rattle.std.specs.Str.{bytes_eq}
use Rattle.std.proofs.lemmas.Bool.{cases_lt, le-leb, false_from_ne_true}
use Rattle.std.proofs.lemmas.List.{get_or_past}
use Rattle.std.proofs.lemmas.List.Elements.{All-nil, All-cons, All-head, All-tail, All-get_or, All-weaker}
use Rattle.std.proofs.lemmas.List.Sums.{AllPass-from_list_all}
use Rattle.std.proofs.lemmas.Slice.Eq.{bytes_eq-Decides}
use Rattle.hex.specs.Hex.{lower_digits, encode_with, encode_lower, IsBytes}
use Rattle.hex.proofs.HexLemmas.{length-encode_with, decode_of-encode_lower}
use Rattle.la_set.specs.declared.update.UpdateId.{UpdateId}
use Rattle.la_set.specs.declared.update.Op.{Op}
use Rattle.la_set.specs.declared.update.Op.TheVariants.{Remove}
use Rattle.la_set.specs.Tags.{IsTags}
use Rattle.la_own.specs.Own.{AreOwnBytes, own}
use Rattle.la_own.specs.declared.own.TheConstants.{OWN_BYTES}
use Rattle.la_own.proofs.lemmas.OwnTags.{own_tags-fit}
use Rattle.la_wire.specs.declared.error.LineFault.TheVariants.{BadNumber}
use Rattle.la_wire.specs.Updates.{own_text, own_decoded, own_on}
use Rattle.la_wire.specs.Writable.{IsIdFrom, IsOpFrom}
use Rattle.la_wire.proofs.Decimals.{is_plain, IsPlain}

are_bytes : (bytes : List ℕ) → All (λ b. b < 256) bytes → IsBytes bytes
are_bytes bytes all i = elim (cases_lt i (length bytes)) [
  | inl lt ↦ All-get_or (λ b. b < 256) bytes i 0 lt all
  | inr past ↦ subst (λ b. b < 256) (sym (get_or_past bytes i 0 past)) (omega arith)
]

pub own-length : (bytes : List ℕ) → AreOwnBytes bytes → (1 ≤ length (own_text bytes)) × (length (own_text bytes) ≤ 496)
own-length [] is = (omega arith, omega arith)
own-length (b ∷ bytes) is =
    let twice = length-encode_with lower_digits (b ∷ bytes) in
    (omega (arith, twice), omega (arith, twice, is.few))

-- digits are not a `-` alone
no_dash : (b : ℕ) (bytes : List ℕ) → bytes_eq (encode_lower (b ∷ bytes)) (codes "-") ≡ false
no_dash b bytes =
    false_from_ne_true (bytes_eq (encode_lower (b ∷ bytes)) (codes "-"))
    (λ is.
    let one : length (encode_lower (b ∷ bytes)) ≡ 1 =
    ap length ((bytes_eq-Decides (encode_lower (b ∷ bytes)) (codes "-")).0 is) in
    let twice = length-encode_with lower_digits (b ∷ bytes) in omega (arith, one, twice))

pub own-text-back : (bytes : List ℕ) → AreOwnBytes bytes → own_on (own_text bytes) ≡ Ok (own bytes)
own-text-back [] is = refl
own-text-back (b ∷ bytes) is =
    let len = own-length (b ∷ bytes) is in
    rw (
      no_dash b bytes,
      le-leb 1 (length (encode_lower (b ∷ bytes))) len.0,
    ) (
    ap own_decoded (decode_of-encode_lower (b ∷ bytes) (are_bytes (b ∷ bytes) is.small))
    ∙ ap (λ t. cond t (Ok (own (b ∷ bytes))) (Err BadNumber)) (le-leb (length (b ∷ bytes)) OWN_BYTES is.few)
    )

-- ## No byte of them parts words

digit-plain : (d : ℕ) → d < 16 → is_plain (slice_index lower_digits d) ≡ true
digit-plain d lt =
    All-get_or (λ b. is_plain b ≡ true) lower_digits d 0 lt (AllPass-from_list_all is_plain lower_digits refl)

digits-plain : (bytes : List ℕ) → All (λ b. b < 256) bytes → IsPlain (encode_lower bytes)
unfolding encode_with
digits-plain [] all = All-nil (λ b. is_plain b ≡ true)
digits-plain (b ∷ bytes) all =
    let small : b < 256 = All-head (λ b. b < 256) b bytes all in
    let high : b / 16 < 16 = omega (arith, small) in
    let low : b % 16 < 16 = omega arith in
    All-cons (λ b. is_plain b ≡ true) (slice_index lower_digits (b / 16))
    (slice_index lower_digits (b % 16) ∷ encode_with lower_digits bytes) (digit-plain (b / 16) high)
    (All-cons (λ b. is_plain b ≡ true) (slice_index lower_digits (b % 16)) (encode_with lower_digits bytes)
    (digit-plain (b % 16) low) (digits-plain bytes (All-tail (λ b. b < 256) b bytes all)))

pub own-plain : (bytes : List ℕ) → AreOwnBytes bytes → IsPlain (own_text bytes)
own-plain [] is = AllPass-from_list_all is_plain (codes "-") refl
own-plain (b ∷ bytes) is = digits-plain (b ∷ bytes) is.small

-- ## Their tags

abbrev Fits : UpdateId → Type 0
Fits tag = (tag.replica < 256) × (1 ≤ tag.number) × (tag.number < 4294967296)

tags_of : Op → List UpdateId
tags_of (Remove tags) = tags
tags_of _ = []

fit : (tags : List UpdateId) (bytes : List ℕ) → AreOwnBytes bytes → Remove tags ≡ own bytes → All Fits tags
unfolding own tags_of
fit tags bytes are is = subst (All Fits) (sym (ap tags_of is)) (own_tags-fit bytes are)

is-id : (least : ℕ) (tag : UpdateId) → least ≤ 1 → Fits tag → IsIdFrom least tag
is-id least tag low fits =
    record { replica = omega (arith, fits.0); some = omega (arith, low, fits.1); number = omega (arith, fits.2) }

-- each is an id
pub own-ids : (least : ℕ) (tags : List UpdateId) (bytes : List ℕ) → least ≤ 1 → AreOwnBytes bytes
    → Remove tags ≡ own bytes
    → All (IsIdFrom least) tags
own-ids least tags bytes low are is =
    All-weaker Fits (IsIdFrom least) (λ tag fits. is-id least tag low fits) tags (fit tags bytes are is)

-- a remove that is one of one's own
pub own-typed : (does : Op) (tags : List UpdateId) (bytes : List ℕ) → does ≡ Remove tags → IsTags tags
    → AreOwnBytes bytes
    → does ≡ own bytes → IsOpFrom 0 does
own-typed does tags bytes remove are_tags are is =
    subst (IsOpFrom 0) (sym remove) (are_tags, own-ids 0 tags bytes (omega arith) are (sym remove ∙ is))
