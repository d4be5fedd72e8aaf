-- No byte of a record is 0 or a line's end.
use Rattle.std.proofs.Common.{◌≡◌, inl, inr, arith, ℕ, zero, suc, ◌-◌, ◌/◌, ◌%◌, ◌<◌, Bool, true, false, List, [], ◌∷◌, ◌++◌, refl, sym, ◌∙◌, ap, take, drop, length}
use Rattle.std.specs.Prelude.{if◌then◌else◌, ◌==◌, ◌&&◌}
use Rattle.std.specs.List.{list_all}
use Rattle.std.specs.Char.{is_ascii_hexdigit}
use Rattle.std.specs.Fmt.{decimal, digits, digits_onto, digit_glyph}
use Rattle.std.proofs.lemmas.Bool.{false≢true}
use Rattle.std.proofs.lemmas.Bool.Decides.{nat_tests}
use Rattle.sha2.specs.Sha256.{sha256}
use Rattle.la_journal.specs.Commits.{HasNoEnd, HasNoZero, AreRecords}
use Rattle.la_journal.specs.Records.{hex, digest, link, end_count, record_of, record_line}
use Rattle.la_journal.proofs.TornRecords.{either}

abbrev pub AreHex : List ℕ → Type 0
AreHex xs = list_all is_ascii_hexdigit xs ≡ true

ten : (b : ℕ) → (b == 10) ≡ true → b ≡ 10
ten b is = grind (arith, nat_tests)

no_end : (b : ℕ) → is_ascii_hexdigit b ≡ true → (b == 10) ≡ false
no_end b is = elim (either (b == 10)) [
  | inl same ↦ absurd (false≢true (ap is_ascii_hexdigit (sym (ten b same)) ∙ is))
  | inr differs ↦ differs
]

parts : (a b : Bool) → (a && b) ≡ true → (a ≡ true) × (b ≡ true)
parts true b is = (refl, is)
parts false b is = absurd (false≢true is)

pub no_ends : (xs : List ℕ) → AreHex xs → HasNoEnd xs
no_ends [] are = tt
no_ends (x ∷ xs) are =
    let both = parts (is_ascii_hexdigit x) (list_all is_ascii_hexdigit xs) are in (no_end x both.0, no_ends xs both.1)

no_zeros : (xs : List ℕ) → AreHex xs → HasNoZero xs
no_zeros [] are = tt
no_zeros (x ∷ xs) are =
    let both = parts (is_ascii_hexdigit x) (list_all is_ascii_hexdigit xs) are in
    ((λ e. false≢true (ap is_ascii_hexdigit (sym e) ∙ both.0)), no_zeros xs both.1)

pub no_ends-append : (xs ys : List ℕ) → HasNoEnd xs → HasNoEnd ys → HasNoEnd (xs ++ ys)
no_ends-append [] ys x y = y
no_ends-append (b ∷ xs) ys x y = (x.0, no_ends-append xs ys x.1 y)

no_zeros-append : (xs ys : List ℕ) → HasNoZero xs → HasNoZero ys → HasNoZero (xs ++ ys)
no_zeros-append [] ys x y = y
no_zeros-append (b ∷ xs) ys x y = (x.0, no_zeros-append xs ys x.1 y)

glyph-hex : (d : ℕ) → d < 16 → is_ascii_hexdigit (digit_glyph false d) ≡ true
glyph-hex d small = grind (arith, nat_tests)

both_hex : (b : ℕ) (xs : List ℕ) → is_ascii_hexdigit b ≡ true → AreHex xs → AreHex (b ∷ xs)
both_hex b xs one more = (λ i. one i && more i)

hex-hex : (xs : List ℕ) → AreHex (hex xs)
hex-hex [] = refl
hex-hex (x ∷ xs) =
    both_hex (digit_glyph false (x / 16 % 16)) (digit_glyph false (x % 16) ∷ hex xs)
    (glyph-hex (x / 16 % 16) (omega arith))
    (both_hex (digit_glyph false (x % 16)) (hex xs) (glyph-hex (x % 16) (omega arith)) (hex-hex xs))

pub digest-hex : (bytes : List ℕ) → AreHex (digest bytes)
unfolding digest
digest-hex bytes = hex-hex (take 8 (sha256 bytes))

onto-hex : (k n : ℕ) (acc : List ℕ) → AreHex acc → AreHex (digits_onto k 10 false n acc)
onto-hex zero n acc are = are
onto-hex (suc k) n acc are =
    let more = both_hex (digit_glyph false (n % 10)) acc (glyph-hex (n % 10) (omega arith)) are in
    cases (n / 10 == 0) _ _ more (onto-hex k (n / 10) _ more)
  where
    cases : (b : Bool) (xs ys : List ℕ) → AreHex xs → AreHex ys → AreHex (if b then xs else ys)
    cases true xs ys x y = x
    cases false xs ys x y = y

decimal-hex : (n : ℕ) → AreHex (decimal n)
unfolding digits
decimal-hex n = onto-hex 64 n [] refl

pub link-hex : (line : List ℕ) → AreHex (link line)
link-hex line = kept (drop (length line - 16) line) (list_all is_ascii_hexdigit (drop (length line - 16) line)) refl
  where
    kept : (end : List ℕ) (b : Bool) → list_all is_ascii_hexdigit end ≡ b → AreHex (if b then end else [])
    kept end true is = is
    kept end false is = refl

-- what is written is a record's line
pub are_records : AreRecords record_line
are_records before group = (
  refl,
  (
    refl,
    (
      refl,
      no_ends-append (decimal (end_count group)) _ (no_ends _ (decimal-hex (end_count group))) (
        refl,
        no_ends-append (link before) _ (no_ends _ (link-hex before))
            (refl, no_ends _ (digest-hex (link before ++ group))),
      ),
    ),
  ),
)

pub no_zero_of : (count : ℕ) (before group : List ℕ) → AreHex before → HasNoZero (record_of count before group)
no_zero_of count before group are = (
  (λ e. absurd (omega (arith, e))),
  (
    (λ e. absurd (omega (arith, e))),
    no_zeros-append (decimal count) _ (no_zeros _ (decimal-hex count)) (
      (λ e. absurd (omega (arith, e))),
      no_zeros-append before _ (no_zeros _ are)
          ((λ e. absurd (omega (arith, e))), no_zeros _ (digest-hex (before ++ group))),
    ),
  ),
)

pub no_zero : (before group : List ℕ) → HasNoZero (record_line before group)
no_zero before group = no_zero_of (end_count group) (link before) group (link-hex before)
