-- What `decimal` writes is read back as a number, and has no byte that parts words.
use Rattle.std.proofs.Common.{◌≡◌, ℕ, zero, suc, ◌<◌, ◌≤◌, ◌^◌, Bool, true, false, not, eqb, leb, ◌&&◌, List, [], ◌∷◌}
use Rattle.std.proofs.Common.{get_or, All, Some, refl, arith, rules}
use Rattle.std.specs.Char.{is_ascii_digit}
use Rattle.std.specs.List.{list_all}
use Rattle.std.specs.Fmt.{decimal}
use Rattle.std.specs.Str.Parse.{digits_value}
use Rattle.std.proofs.lemmas.Bool.{ne_eqb, le-leb}
use Rattle.std.proofs.lemmas.Bool.Decides.{nat_tests}
use Rattle.std.proofs.lemmas.Fmt.{digits_decimal, decimal_is_IsNumeral, first_decimal, decimal_digit}
use Rattle.std.proofs.lemmas.List.Elements.{All-weaker}
use Rattle.std.proofs.lemmas.List.Sums.{AllPass-from_list_all}
use Rattle.std.proofs.lemmas.Str.Parse.{IsNumeralModel, numerals_by_value}
use Rattle.la_script.specs.Numbers.{is_canonical, number}

abbrev AreDigits : List ℕ → Type 0
AreDigits ds = list_all is_ascii_digit ds ≡ true

own : IsNumeralModel AreDigits (digits_value 10)
own = numerals_by_value AreDigits (search rules)

pub decimal-digits : (n : ℕ) → n < 2 ^ 64 → list_all is_ascii_digit (decimal n) ≡ true
decimal-digits n h = digits_decimal own n h

canonical : (w : List ℕ) → AreDigits w → 48 < get_or w 0 0 → is_canonical w ≡ true
canonical [] d h = absurd (omega arith)
canonical (x ∷ xs) d h = rw (ne_eqb x 48 (omega arith)) d

pub decimal-canonical : (n : ℕ) → n < 2 ^ 64 → is_canonical (decimal n) ≡ true
decimal-canonical zero h = rw (decimal_digit 0 (omega arith)) refl
decimal-canonical (suc k) h =
    canonical (decimal (suc k)) (decimal-digits (suc k) h) (first_decimal (suc k) (omega arith) h)

number-of : (w : List ℕ) (n low high : ℕ) → is_canonical w ≡ true → digits_value 10 w ≡ n → low ≤ n → n ≤ high
    → number low high w ≡ Some n
number-of w n low high c v l h = rw (c, v, le-leb n high h, le-leb low n l) refl

-- a number in its range is read back
pub number-decimal : (low high n : ℕ) → low ≤ n → n ≤ high → high < 2 ^ 64 → number low high (decimal n) ≡ Some n
number-decimal low high n l h few =
    let small : n < 2 ^ 64 = omega arith in
    number-of (decimal n) n low high (decimal-canonical n small) (decimal_is_IsNumeral n small).1 l h

-- a byte that parts neither words nor parts, nor a line from a name, as all bytes of words are
abbrev pub is_plain : ℕ → Bool
is_plain b = leb 44 b && (not (eqb b 59) && not (eqb b 64))

abbrev pub IsPlain : List ℕ → Type 0
IsPlain w = All (λ b. is_plain b ≡ true) w

digit-plain : (b : ℕ) → is_ascii_digit b ≡ true → is_plain b ≡ true
digit-plain b d = grind (arith, nat_tests)

pub decimal-plain : (n : ℕ) → n < 2 ^ 64 → IsPlain (decimal n)
decimal-plain n h =
    All-weaker (λ b. is_ascii_digit b ≡ true) (λ b. is_plain b ≡ true) digit-plain (decimal n)
    (AllPass-from_list_all is_ascii_digit (decimal n) (decimal-digits n h))

pub decimal-no_stop : (n : ℕ) → n < 2 ^ 64 → All (λ b. eqb b 46 ≡ false) (decimal n)
decimal-no_stop n h =
    All-weaker (λ b. is_ascii_digit b ≡ true) (λ b. eqb b 46 ≡ false) (λ b d. grind (arith, nat_tests)) (decimal n)
    (AllPass-from_list_all is_ascii_digit (decimal n) (decimal-digits n h))

pub decimal-no_comma : (n : ℕ) → n < 2 ^ 64 → All (λ b. eqb b 44 ≡ false) (decimal n)
decimal-no_comma n h =
    All-weaker (λ b. is_ascii_digit b ≡ true) (λ b. eqb b 44 ≡ false) (λ b d. grind (arith, nat_tests)) (decimal n)
    (AllPass-from_list_all is_ascii_digit (decimal n) (decimal-digits n h))
