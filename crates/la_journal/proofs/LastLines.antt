-- The last lines of some, and the record that states how many they are.
use Rattle.std.proofs.Common.{◌≡◌, ◌≢◌, inl, inr, arith, ℕ, suc, ◌+◌, ◌-◌, ◌*◌, ◌/◌, ◌%◌, ◌^◌, ◌<◌, ◌≤◌, Bool, true, false, List, [], ◌∷◌, ◌++◌, Option, Some, None, refl, sym, ◌∙◌, ap, subst, take, drop, length, get_or, reverse, append_assoc, take-append-drop}
use Rattle.std.specs.Prelude.{if◌then◌else◌, ◌==◌, ◌↔◌, IsTrue, IfSome}
use Rattle.std.specs.Char.{is_ascii_digit}
use Rattle.std.specs.Fmt.{decimal}
use Rattle.std.proofs.lemmas.List.{length-append, length-take-le, length-drop, length-reverse, reverse-append, take_more, drop_more, take_all, take_at, take-take, drop-drop, drop-append-le, get_or-drop}
use Rattle.std.proofs.lemmas.Bool.{ne_eqb}
use Rattle.std.proofs.lemmas.Bool.Decides.{nat_tests}
use Rattle.std.proofs.lemmas.Fmt.{decimal_by_steps}
use Rattle.la_journal.specs.Lines.{file_of}
use Rattle.la_journal.specs.Commits.{HasNoEnd}
use Rattle.la_journal.specs.Records.{ended, ended_from, unended, unended_from, number_from, stated_link, record_of, IsRecordOfLast}
use Rattle.la_journal.proofs.TornRecords.{either}
use Rattle.la_journal.proofs.Ended.{unended_byte, ended-append, unended-append, one_ended, whole_at_end, few_lines}

ten : (b : ℕ) → (b == 10) ≡ true → b ≡ 10
ten b is = grind (arith, nat_tests)

ends_ten : (got : List ℕ) (b : ℕ) → unended_from got (b ∷ []) ≡ [] → b ≡ 10
ends_ten got b is = elim (either (b == 10)) [
  | inl end ↦ ten b end
  | inr go ↦ absurd (omega (arith, ap length (sym (unended_byte got [] b go) ∙ is), length-append got (b ∷ [])))
]

last_ten : (xs : List ℕ) → 0 < length xs → unended xs ≡ [] → get_or xs (length xs - 1) 0 ≡ 10
last_ten xs some is =
    let m = length xs - 1 in
    let split : xs ≡ take m xs ++ get_or xs m 0 ∷ [] =
    sym (take_all (m + 1) xs (omega arith)) ∙ take_more xs m 0 (omega arith) in
    ends_ten (unended (take m xs)) (get_or xs m 0)
    (sym (unended-append [] (take m xs) (get_or xs m 0 ∷ [])) ∙ ap unended (sym split) ∙ is)

pub end_is : (xs : List ℕ) (at : ℕ) → at < length xs → unended xs ≡ []
    → drop at xs ≡ take (length xs - 1 - at) (drop at xs) ++ 10 ∷ []
end_is xs at within is =
    let w = length xs - 1 - at in
    let rest = drop at xs in
    let place : at + w ≡ length xs - 1 = omega arith in
    let long = length-drop at xs in
    sym (take_all (w + 1) rest (omega (arith, long)))
    ∙ take_more rest w 0 (omega (arith, long))
    ∙ ap (λ (b : ℕ). take w rest ++ b ∷ [])
    (get_or-drop at xs w 0 ∙ ap (λ (n : ℕ). get_or xs n 0) place ∙ last_ten xs (omega arith) is)

pub last_is : (xs : List ℕ) (at : ℕ) → at < length xs → unended xs ≡ []
    → HasNoEnd (take (length xs - 1 - at) (drop at xs)) → unended (take at xs) ≡ []
    → ended xs ≡ ended (take at xs) ++ take (length xs - 1 - at) (drop at xs) ∷ []
last_is xs at within is has whole =
    let line = take (length xs - 1 - at) (drop at xs) in
    ap ended (sym (take-append-drop at xs) ∙ ap (λ (l : List ℕ). take at xs ++ l) (end_is xs at within is))
    ∙ ended-append [] (take at xs) (line ++ 10 ∷ [])
    ∙ ap (λ (l : List ℕ). ended (take at xs) ++ ended_from l (line ++ 10 ∷ [])) whole
    ∙ ap (λ (l : List (List ℕ)). ended (take at xs) ++ l) (one_ended [] line [] has)

pub whole_before : (xs : List ℕ) (at : ℕ) → 0 < at → at ≤ length xs → get_or xs (at - 1) 0 ≡ 10
    → unended (take at xs) ≡ []
whole_before xs at some within is =
    let next : at ≡ (at - 1) + 1 = omega arith in
    ap (λ (n : ℕ). unended (take n xs)) next
    ∙ ap unended (take_more xs (at - 1) 0 (omega arith) ∙ ap (λ (b : ℕ). take (at - 1) xs ++ b ∷ []) is)
    ∙ whole_at_end (take (at - 1) xs)

pub one_back : (xs : List ℕ) (at : ℕ) → 0 < at → at < length xs → get_or xs (at - 1) 0 ≢ 10
    → HasNoEnd (take (length xs - 1 - at) (drop at xs))
    → HasNoEnd (take (length xs - 1 - (at - 1)) (drop (at - 1) xs))
one_back xs at some within not has =
    let k = at - 1 in
    let width : length xs - 1 - k ≡ suc (length xs - 1 - at) = omega arith in
    let next : k + 1 ≡ at = omega arith in
    let rest : drop k xs ≡ get_or xs k 0 ∷ drop at xs =
    drop_more xs k 0 (omega arith) ∙ ap (λ (n : ℕ). get_or xs k 0 ∷ drop n xs) next in
    subst HasNoEnd (sym (λ i. take (width i) (rest i))) (ne_eqb _ 10 not, has)

pub too_few : (ls : List (List ℕ)) (front : List ℕ) (i count : ℕ) → i < count
    → reverse (ended front) ≡ drop i (reverse ls)
    → front ≡ [] → length ls < count
too_few ls front i count more is none =
    let gone : length (drop i (reverse ls)) ≡ 0 =
    ap length (sym is) ∙ ap (λ (l : List ℕ). length (reverse (ended l))) none in
    omega (arith, gone, length-drop i (reverse ls), length-reverse ls)

-- one line more from the end
module _ (before line : List ℕ) (at to i : ℕ) (ls : List (List ℕ)) (within : at ≤ length before)
    (back : drop at before ≡ file_of (reverse (take i ls))) (front : reverse (ended (take at before)) ≡ drop i ls)
    (below : to < length (take at before))
    (last : ended (take at before) ≡ ended (take to (take at before)) ++ line ∷ [])
    (end : drop to (take at before) ≡ line ++ 10 ∷ []) where
  long : length (take at before) ≡ at
  long = length-take-le at before within

  shorter : take to (take at before) ≡ take to before
  shorter = take-take to at before (omega (arith, long, below))

  these : drop i ls ≡ line ∷ reverse (ended (take to before))
  these =
      sym front
      ∙ ap reverse last
      ∙ reverse-append (ended (take to (take at before))) (line ∷ [])
      ∙ ap (λ (l : List ℕ). line ∷ reverse (ended l)) shorter

  pub still_within : to ≤ length before
  still_within = omega (arith, long, below)

  pub still_whole : unended (take to (take at before)) ≡ [] → unended (take to before) ≡ []
  still_whole is = ap unended (sym shorter) ∙ is

  pub enough : i + 1 ≤ length ls
  enough = omega (arith, ap length these, length-drop i ls)

  pub still_front : reverse (ended (take to before)) ≡ drop (i + 1) ls
  still_front = sym (ap (drop 1) these) ∙ drop-drop 1 i ls

  one_more : take (i + 1) ls ≡ take i ls ++ line ∷ []
  one_more =
      let rest = reverse (ended (take to before)) in
      ap (take (i + 1))
      (sym (take-append-drop i ls)
      ∙ ap (λ (l : List (List ℕ)). take i ls ++ l) these
      ∙ sym (append_assoc (take i ls) (line ∷ []) rest))
      ∙ take_at (take i ls ++ line ∷ []) rest (i + 1)
      (omega (arith, length-append (take i ls) (line ∷ []), length-take-le i ls (omega (arith, enough))))

  pub still_back : drop to before ≡ file_of (reverse (take (i + 1) ls))
  still_back =
      ap (drop to) (sym (take-append-drop at before))
      ∙ drop-append-le to (take at before) (drop at before) (omega (arith, below))
      ∙ (λ j. end j ++ back j)
      ∙ append_assoc line (10 ∷ []) (file_of (reverse (take i ls)))
      ∙ sym (ap file_of (ap reverse one_more ∙ reverse-append (take i ls) (line ∷ [])))

-- the number that a record states
number_digit : (got b : ℕ) (rest : List ℕ) → is_ascii_digit b ≡ true
    → number_from got (b ∷ rest) ≡ number_from (got * 10 + (b - 48)) rest
number_digit got b rest is = ap (λ (t : Bool). if t then number_from (got * 10 + (b - 48)) rest else Some got) is

number_end : (got b : ℕ) (rest : List ℕ) → is_ascii_digit b ≡ false → number_from got (b ∷ rest) ≡ Some got
number_end got b rest is = ap (λ (t : Bool). if t then number_from (got * 10 + (b - 48)) rest else Some got) is

at_least : (got : ℕ) (xs : List ℕ) (n : ℕ) → number_from got xs ≡ Some n → got ≤ n
at_least got [] n is = absurd (cc)
at_least got (b ∷ xs) n is = elim (either (is_ascii_digit b)) [
  | inl digit ↦ omega (arith, at_least (got * 10 + (b - 48)) xs n (sym (number_digit got b xs digit) ∙ is))
  | inr other ↦ same got n (sym (number_end got b xs other) ∙ is)
]
  where
    same : (got n : ℕ) → Some got ≡ Some n → got ≤ n
    same got n e = let eq : got ≡ n = cc in omega arith

pub too_large : (got b : ℕ) (bytes : List ℕ) (at n : ℕ) → at < length bytes → b ≡ get_or bytes at 0
    → number_from got (drop at bytes) ≡ number_from 0 bytes → is_ascii_digit b ≡ true → 2 ^ 64 ≤ got * 10 + (b - 48)
    → number_from 0 bytes ≡ Some n → 2 ^ 64 ≤ n
too_large got b bytes at n within here is digit large found =
    let split : drop at bytes ≡ b ∷ drop (at + 1) bytes =
    drop_more bytes at 0 within ∙ ap (λ (x : ℕ). x ∷ drop (at + 1) bytes) (sym here) in
    omega (
      arith,
      large,
      at_least (got * 10 + (b - 48)) (drop (at + 1) bytes) n
          (sym (number_digit got b (drop (at + 1) bytes) digit) ∙ ap (number_from got) (sym split) ∙ is ∙ found),
    )

digit_is : (d : ℕ) → d < 10 → is_ascii_digit (48 + d) ≡ true
digit_is d small = grind (arith, nat_tests)

spells : (n : ℕ) → n < 2 ^ 64 → (rest : List ℕ) → number_from 0 (decimal n ++ rest) ≡ number_from n rest
spells =
    decimal_by_steps (λ n ds. (rest : List ℕ) → number_from 0 (ds ++ rest) ≡ number_from n rest)
    (λ n small rest. number_digit 0 (48 + n) rest (digit_is n small) ∙ ap (λ (m : ℕ). number_from m rest) (first n))
    (λ n ds large is rest. ap (number_from 0) (append_assoc ds ((48 + n % 10) ∷ []) rest) ∙ is ((48 + n % 10) ∷ rest)
    ∙ number_digit (n / 10) (48 + n % 10) rest (digit_is (n % 10) (omega arith))
    ∙ ap (λ (m : ℕ). number_from m rest) (next n))
  where
    first : (n : ℕ) → 0 * 10 + (48 + n - 48) ≡ n
    first n = omega arith

    next : (n : ℕ) → n / 10 * 10 + (48 + n % 10 - 48) ≡ n
    next n = omega arith

pub states : (n : ℕ) (rest : List ℕ) → n < 2 ^ 64 → number_from 0 (decimal n ++ 32 ∷ rest) ≡ Some n
states n rest fits = spells n fits (32 ∷ rest)

pub number_gives : (r : Option ℕ) (bytes : List ℕ) (n : ℕ) → IfSome r (λ m. number_from 0 bytes ≡ Some m)
    → (r ≡ None → (m : ℕ) → number_from 0 bytes ≡ Some m → 2 ^ 64 ≤ m) → n < 2 ^ 64 → number_from 0 bytes ≡ Some n
    → r ≡ Some n
number_gives None bytes n some none fits is =
    let large : 2 ^ 64 ≤ n = none refl n is in absurd (omega (arith, large, fits))
number_gives (Some m) bytes n some none fits is = sym some ∙ is

some_same : (m n : ℕ) → Some m ≡ Some n → m ≡ n
some_same m n e = cc

module _ (before line : List ℕ) (whole : unended before ≡ []) (short : length before < 2 ^ 64) where
  fits : (n : ℕ) → n ≤ length (reverse (ended before)) → n < 2 ^ 64
  fits n few = omega (arith, few, short, few_lines before whole, length-reverse (ended before))

  pub no_count : ((n : ℕ) (rest : List ℕ) → n < 2 ^ 64 → line ≡ 126 ∷ 32 ∷ (decimal n ++ 32 ∷ rest) → None ≡ Some n)
      → IsRecordOfLast (reverse (ended before)) line → ⊥
  no_count none is = let e = none is.0 _ (fits is.0 is.1) is.2 in absurd (cc)

  pub is_of_last : (b : Bool) (count : ℕ) (lines st : List ℕ)
      → lines ≡ file_of (reverse (take count (reverse (ended before)))) → st ≡ stated_link line
      → count ≤ length (ended before)
      → ((n : ℕ) (rest : List ℕ) → n < 2 ^ 64 → line ≡ 126 ∷ 32 ∷ (decimal n ++ 32 ∷ rest) → Some count ≡ Some n)
      → IsTrue b ↔ (line ≡ record_of count st lines) → IsTrue b ↔ IsRecordOfLast (reverse (ended before)) line
  is_of_last b count lines st are states_ few counts tests = (
    λ t. (
      count,
      omega (arith, few, length-reverse (ended before)),
      tests.0 t ∙ (λ i. record_of count (states_ i) (are i)),
    ),
    λ is.
        let same = some_same count is.0 (counts is.0 _ (fits is.0 is.1) is.2) in
        tests.1
        (is.2
        ∙ ap (λ (n : ℕ). record_of n (stated_link line) (file_of (reverse (take n (reverse (ended before)))))) (sym
        same)
        ∙ (λ i. record_of count (sym states_ i) (sym are i))),
  )
