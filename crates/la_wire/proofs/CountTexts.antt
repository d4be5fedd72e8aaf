-- Counts as one word: how it is written, and that it is read back.
use Rattle.std.proofs.Common.{◌≡◌, ◌≢◌, ℕ, zero, suc, ◌+◌, ◌-◌, ◌<◌, ◌≤◌, Bool, true, false, cond, append-nil}
use Rattle.std.proofs.Common.{append_assoc, eqb, leb, ltb, get_or, List, [], ◌∷◌, ◌++◌, length, take, drop, map, All}
use Rattle.std.proofs.Common.{Option, Some, None, Ok, Err, refl, sym, ap, ◌∙◌, subst, arith, inl, inr}
use Rattle.std.specs.Fmt.{decimal}
use Rattle.std.specs.List.{slice_get, slice_split, onto_first, position_or_len, position, after_first}
use Rattle.std.proofs.lemmas.Bool.{ne_eqb, cases_eq, cases_lt, le-leb, lt-leb, ltb-true, ltb-false}
use Rattle.std.proofs.lemmas.List.{get_or-take, length-take-le, length-map, drop_all, get_or_past}
use Rattle.std.proofs.lemmas.List.Elements.{All-map, All-weaker, All-take, All-from_get_or, All-head, All-tail}
use Rattle.std.proofs.lemmas.List.Splits.{slice_split-cons_no, slice_split_first}
use Rattle.std.proofs.lemmas.Option.{slice_get-get_or}
use Rattle.la_set.specs.declared.counts.Counts.{Counts}
use Rattle.la_set.specs.Counts.{count_in, from_counts}
use Rattle.la_set.proofs.lemmas.Counting.{count_in-known, count_in-past, eight-counts, same_counts}
use Rattle.la_script.specs.Numbers.{u32_max, number}
use Rattle.la_script.proofs.lemmas.{found_before, found_after}
use Rattle.la_wire.specs.declared.error.LineFault.{LineFault}
use Rattle.la_wire.specs.declared.error.LineFault.TheVariants.{BadNumber}
use Rattle.la_wire.specs.Joined.{spaced, joined_by, parted}
use Rattle.la_wire.specs.Readings.{or_line_fault, number_on}
use Rattle.la_wire.specs.Updates.{made}
use Rattle.la_wire.specs.MessageLines.{numbers_in, used_from, used, counts_text, numbers_on, counts_with, counts_on}
use Rattle.la_wire.specs.Writable.{IsCounts}
use Rattle.la_wire.proofs.Decimals.{number-decimal, decimal-plain, decimal-no_comma, IsPlain}
use Rattle.la_wire.proofs.Joins.{Lacks, parted-joined, joined-plain}
use Rattle.la_wire.proofs.UpdateLists.{put_next}

-- ## How many numbers are written

used-down : (c : Counts) (n : ℕ) → count_in c (suc n) ≡ 0 → used_from c (suc n) ≡ used_from c n
used-down c n none = rw none refl

used-stop : (c : Counts) (n : ℕ) → count_in c (suc n) ≢ 0 → used_from c (suc n) ≡ suc (suc n)
used-stop c n some = rw (ne_eqb (count_in c (suc n)) 0 some) refl

-- one zero less at the end
pub goes_down : (c : Counts) (u : ℕ) → 1 < u → count_in c (u - 1) ≡ 0 → used_from c (u - 1 - 1) ≡ used_from c (u - 1)
goes_down c u more none =
    let e : u - 1 ≡ suc (u - 2) = omega (arith, more) in
    let f : u - 1 - 1 ≡ u - 2 = omega (arith, more) in
    ap (used_from c) f ∙ sym (used-down c (u - 2) (subst (λ r. count_in c r ≡ 0) e none)) ∙ ap (used_from c) (sym e)

-- no zero at the end is left, or one number
pub stops_at : (c : Counts) (u : ℕ) → 1 ≤ u → (1 < u → count_in c (u - 1) ≢ 0) → used_from c (u - 1) ≡ u
stops_at c u low some = elim (cases_lt 1 u) [
  | inl more ↦
      let e : u - 1 ≡ suc (u - 2) = omega (arith, more) in
      ap (used_from c) e ∙ used-stop c (u - 2) (subst (λ r. count_in c r ≢ 0) e (some more)) ∙ omega (arith, more)
  | inr one ↦
      let e : u - 1 ≡ 0 = omega (arith, one) in
      ap (used_from c) e ∙ omega (arith, one, low)
]

-- the numbers that are not written are 0
none-past : (c : Counts) (k r : ℕ) → used_from c k ≤ r → r ≤ k → count_in c r ≡ 0
none-past c zero r high low = absurd (omega (arith, high, low))
none-past c (suc k) r high low = elim (cases_eq (count_in c (suc k)) 0) [
  | inl none ↦ elim (cases_eq r (suc k)) [
    | inl is ↦ ap (count_in c) is ∙ none
    | inr other ↦ none-past c k r (subst (λ n. n ≤ r) (used-down c k none) high) (omega (arith, low, other))
  ]
  | inr some ↦ absurd (omega (arith, high, low, used-stop c k some))
]

used-some : (c : Counts) (k : ℕ) → 1 ≤ used_from c k
used-some c zero = omega arith
used-some c (suc k) = elim (cases_eq (count_in c (suc k)) 0) [
  | inl none ↦ omega (arith, used-down c k none, used-some c k)
  | inr some ↦ omega (arith, used-stop c k some)
]

used-few : (c : Counts) (k : ℕ) → used_from c k ≤ suc k
used-few c zero = omega arith
used-few c (suc k) = elim (cases_eq (count_in c (suc k)) 0) [
  | inl none ↦ omega (arith, used-down c k none, used-few c k)
  | inr some ↦ omega (arith, used-stop c k some)
]

-- ## As they are written

-- the first number, and those that are left
first_number : (c : Counts) (u : ℕ) → 1 ≤ u
    → joined_by 44 (map decimal (take u (numbers_in c)))
    ≡ decimal (count_in c 0) ++ spaced 44 (map decimal (drop 1 (take u (numbers_in c))))
first_number c zero low = absurd (omega (arith, low))
first_number c (suc u) low = refl

number-at : (c : Counts) (r : ℕ) → r < 8 → get_or (numbers_in c) r 0 ≡ count_in c r
number-at c zero lt = refl
number-at c (suc zero) lt = refl
number-at c (suc (suc zero)) lt = refl
number-at c (suc (suc (suc zero))) lt = refl
number-at c (suc (suc (suc (suc zero)))) lt = refl
number-at c (suc (suc (suc (suc (suc zero))))) lt = refl
number-at c (suc (suc (suc (suc (suc (suc zero)))))) lt = refl
number-at c (suc (suc (suc (suc (suc (suc (suc zero))))))) lt = refl
number-at c (suc (suc (suc (suc (suc (suc (suc (suc r)))))))) lt = absurd (omega arith)

-- a number among those that are written
written_number : (c : Counts) (u r : ℕ) → u ≤ 8 → r < u → slice_get (take u (numbers_in c)) r ≡ Some (count_in c r)
written_number c u r few lt =
    slice_get-get_or (take u (numbers_in c)) r 0 (omega (arith, lt, length-take-le u (numbers_in c) few))
    ∙ ap Some (get_or-take u (numbers_in c) r 0 lt ∙ number-at c r (omega (arith, lt, few)))

-- none is left
all_written : (c : Counts) (u r : ℕ) → u ≤ 8 → u ≤ r → drop r (take u (numbers_in c)) ≡ []
all_written c u r few le = drop_all r (take u (numbers_in c)) (omega (arith, le, length-take-le u (numbers_in c) few))

abbrev pub written : Counts → List ℕ
written c = take (used c) (numbers_in c)

pub used-low : (c : Counts) → 1 ≤ used c
unfolding used
used-low c = used-some c 7

pub used-high : (c : Counts) → used c ≤ 8
unfolding used
used-high c = used-few c 7

used-past : (c : Counts) (r : ℕ) → used c ≤ r → r < 8 → count_in c r ≡ 0
unfolding used
used-past c r high low = none-past c 7 r high (omega (arith, low))

-- the first number is written, and the others are left
pub written_first : (c : Counts) (n : ℕ) (before after : List ℕ) → n ≡ count_in c 0 → after ≡ before ++ decimal n
    → after ++ spaced 44 (map decimal (drop 1 (take (used c) (numbers_in c)))) ≡ before ++ counts_text c
unfolding counts_text
written_first c n before after e is =
    let left = spaced 44 (map decimal (drop 1 (written c))) in
    ap (λ bytes. bytes ++ left) (is ∙ ap (λ k. before ++ decimal k) e)
    ∙ append_assoc before (decimal (count_in c 0)) left
    ∙ ap (λ bytes. before ++ bytes) (sym (first_number c (used c) (used-low c)))

-- then the next one
pub written_next : (c : Counts) (r : ℕ) (before after all : List ℕ) → r < used c
    → after ≡ before ++ 44 ∷ decimal (count_in c r)
    → before ++ spaced 44 (map decimal (drop r (take (used c) (numbers_in c)))) ≡ all
    → after ++ spaced 44 (map decimal (drop (r + 1) (take (used c) (numbers_in c)))) ≡ all
written_next c r before after all lt is so_far =
    put_next 44 decimal (written c) r (count_in c r) before after all (written_number c (used c) r (used-high c) lt)
    is so_far

-- and the last one
pub written_last : (c : Counts) (r : ℕ) (out all : List ℕ) → used c ≤ r
    → out ++ spaced 44 (map decimal (drop r (take (used c) (numbers_in c)))) ≡ all → out ≡ all
written_last c r out all le so_far =
    sym (append-nil out)
    ∙ ap (λ ns. out ++ spaced 44 (map decimal ns)) (sym (all_written c (used c) r (used-high c) le))
    ∙ so_far

-- ## In the range of their type

pub first_typed : (c : Counts) (n : ℕ) → n ≡ count_in c 0 → n ≤ u32_max → (r : ℕ) → r < 1 → count_in c r ≤ u32_max
first_typed c n e few r lt =
    let first : 0 ≡ r = omega (arith, lt) in
    subst (λ q. count_in c q ≤ u32_max) first (subst (λ k. k ≤ u32_max) e few)

pub next_typed : (c : Counts) (s n : ℕ) → n ≡ count_in c s → n ≤ u32_max → ((r : ℕ) → r < s → count_in c r ≤ u32_max)
    → (r : ℕ) → r < s + 1 → count_in c r ≤ u32_max
next_typed c s n e few so_far r lt = elim (cases_eq r s) [
  | inl is ↦ subst (λ q. count_in c q ≤ u32_max) (sym is) (subst (λ k. k ≤ u32_max) e few)
  | inr other ↦ so_far r (omega (arith, lt, other))
]

-- those that are not written are 0
pub all_typed : (c : Counts) (s : ℕ) → length c.of ≡ 8 → used c ≤ s → ((r : ℕ) → r < s → count_in c r ≤ u32_max)
    → IsCounts c
all_typed c s eight le so_far = record { eight = eight; each = each }
  where
    each : (r : ℕ) → count_in c r ≤ u32_max
    each r = elim (cases_lt r s) [
      | inl here ↦ so_far r here
      | inr past ↦ elim (cases_lt r 8) [
        | inl lt ↦ omega (arith, used-past c r (omega (arith, le, past)) lt)
        | inr above ↦ omega (arith, count_in-past c r above)
      ]
    ]

-- ## As they are read

-- where no byte passes there is one part
one_part : (p : ℕ → Bool) (xs : List ℕ) → length xs ≤ position_or_len p xs → slice_split p xs ≡ xs ∷ []
one_part p [] le = refl
one_part p (x ∷ xs) le = by (p x) refl (one_part p xs)
  where
    by : (t : Bool) → p x ≡ t → (length xs ≤ position_or_len p xs → slice_split p xs ≡ xs ∷ [])
        → slice_split p (x ∷ xs) ≡ (x ∷ xs) ∷ []
    by true e rest = let at : position_or_len p (x ∷ xs) ≡ 0 = rw e refl in absurd (omega (arith, le, at))
    by false e rest =
        let at : position_or_len p (x ∷ xs) ≡ position_or_len p xs + 1 = rw e (omega arith) in
        slice_split-cons_no p x xs e ∙ ap (onto_first x) (rest (omega (arith, le, at)))

abbrev is_comma : ℕ → Bool
is_comma b = eqb b 44

within-at : (t : Bool) (m n k : ℕ) → ltb m n ≡ t → Some k ≡ cond t (Some m) None → m < n
within-at true m n k is e = ltb-true m n is
within-at false m n k is e = absurd cc

none-at : (t : Bool) (m n : ℕ) → ltb m n ≡ t → None ≡ cond t (Some m) None → n ≤ m
none-at true m n is e = absurd cc
none-at false m n is e = ltb-false m n is

-- the first text, where there is another one
pub first_found : (xs : List ℕ) (k : ℕ) → Some k ≡ position is_comma xs
    → parted 44 xs ≡ take k xs ∷ parted 44 (take (length xs - (k + 1)) (drop (k + 1) xs))
first_found xs k e =
    slice_split_first is_comma xs 0 (within-at _ _ _ k refl e)
    ∙ ap (λ part. part ∷ slice_split is_comma (after_first is_comma xs)) (sym (found_before is_comma xs k e))
    ∙ ap (λ rest. take k xs ∷ slice_split is_comma rest) (sym (found_after is_comma xs k e))

-- and where it is the only one
pub none_found : (xs : List ℕ) → None ≡ position is_comma xs → parted 44 xs ≡ xs ∷ []
none_found xs e = one_part is_comma xs (none-at _ _ _ refl e)

-- counts by their numbers, one by one
pub one_by_one : (ns : List ℕ) (a b c d e f g h : ℕ) (counts : Counts) → a ≡ get_or ns 0 0 → b ≡ get_or ns 1 0
    → c ≡ get_or ns 2 0 → d ≡ get_or ns 3 0 → e ≡ get_or ns 4 0 → f ≡ get_or ns 5 0 → g ≡ get_or ns 6 0
    → h ≡ get_or ns 7 0 → counts ≡ from_counts (λ r. get_or (a ∷ b ∷ c ∷ d ∷ e ∷ f ∷ g ∷ h ∷ []) r 0)
    → counts ≡ counts_with ns
unfolding from_counts
one_by_one ns a b c d e f g h counts ea eb ec ed ee ef eg eh is =
    is ∙ (λ i. record { of = ea i ∷ eb i ∷ ec i ∷ ed i ∷ ee i ∷ ef i ∷ eg i ∷ eh i ∷ [] })

bad-number : (o : Option ℕ) (fault : LineFault) → or_line_fault BadNumber o ≡ Err fault → fault ≡ BadNumber
bad-number (Some n) fault e = absurd cc
bad-number None fault e = cc

-- a text that is no number
counts_refused : (word : List ℕ) (o : Option ℕ) (fault : LineFault) → or_line_fault BadNumber o ≡ Err fault
    → numbers_on (parted 44 word) ≡ Err fault → counts_on word ≡ Err fault
unfolding counts_on
counts_refused word o fault none read = by (leb (length (parted 44 word)) 8)
  where
    by : (t : Bool) → cond t (made counts_with (numbers_on (parted 44 word))) (Err BadNumber) ≡ Err fault
    by true = rw read refl
    by false = ap Err (sym (bad-number o fault none))

-- more numbers than eight
too_many : (word : List ℕ) → 8 < length (parted 44 word) → counts_on word ≡ Err BadNumber
unfolding counts_on
too_many word many = rw (lt-leb (length (parted 44 word)) 8 many) refl

-- these numbers
counts_read : (word : List ℕ) (numbers : List ℕ) → length (parted 44 word) ≤ 8
    → numbers_on (parted 44 word) ≡ Ok numbers → counts_on word ≡ Ok (counts_with numbers)
unfolding counts_on
counts_read word numbers few read = rw (le-leb (length (parted 44 word)) 8 few, read) refl

-- a number is read, and then a text that is none
pub stops_reading : (word text : List ℕ) (texts left : List (List ℕ)) (ns : List ℕ) (fault : LineFault)
    → left ≡ text ∷ texts → number_on 0 u32_max text ≡ Err fault
    → made (λ more. ns ++ more) (numbers_on left) ≡ numbers_on (parted 44 word) → counts_on word ≡ Err fault
stops_reading word text texts left ns fault e none said =
    counts_refused word (number 0 u32_max text) fault none
    (sym said ∙ ap (λ ts. made (λ more. ns ++ more) (numbers_on ts)) e ∙ rw none refl)

-- eight are read, and there is one more
pub no_room : (word text : List ℕ) (texts left : List (List ℕ)) (ns : List ℕ) → left ≡ text ∷ texts → length ns ≡ 8
    → length ns + length left ≡ length (parted 44 word) → counts_on word ≡ Err BadNumber
no_room word text texts left ns e full many = too_many word (omega (arith, ap length e, full, many))

-- all are read
pub all_read : (word : List ℕ) (left : List (List ℕ)) (ns : List ℕ) → left ≡ [] → length ns ≤ 8
    → made (λ more. ns ++ more) (numbers_on left) ≡ numbers_on (parted 44 word)
    → length ns + length left ≡ length (parted 44 word) → counts_on word ≡ Ok (counts_with ns)
all_read word left ns e few said many =
    counts_read word ns (omega (arith, ap length e, few, many))
    (sym said ∙ ap (λ ts. made (λ more. ns ++ more) (numbers_on ts)) e ∙ ap Ok (append-nil ns))

-- ## What is written is read

numbers-back : (ns : List ℕ) → All (λ n. n ≤ u32_max) ns → numbers_on (map decimal ns) ≡ Ok ns
numbers-back [] all = refl
numbers-back (n ∷ ns) all =
    rw (
      number-decimal 0 u32_max n (omega arith) (All-head (λ n. n ≤ u32_max) n ns all) (omega arith),
      numbers-back ns (All-tail (λ n. n ≤ u32_max) n ns all),
    ) refl

numbers-few : (c : Counts) → IsCounts c → All (λ n. n ≤ u32_max) (numbers_in c)
numbers-few c is =
    All-from_get_or (λ n. n ≤ u32_max) (numbers_in c) 0
    (λ r lt. subst (λ n. n ≤ u32_max) (sym (number-at c r (omega (arith, lt)))) (is.each r))

pub written-few : (c : Counts) → IsCounts c → All (λ n. n ≤ u32_max) (written c)
written-few c is = All-take (λ n. n ≤ u32_max) (used c) (numbers_in c) (numbers-few c is)

parts-of : (c : Counts) → IsCounts c → parted 44 (counts_text c) ≡ map decimal (written c)
unfolding counts_text
parts-of c is =
    parts (written c) (written-few c is)
    (omega (arith, used-low c, length-take-le (used c) (numbers_in c) (used-high c)))
  where
    no-comma : (ns : List ℕ) → All (λ n. n ≤ u32_max) ns → All (Lacks 44) (map decimal ns)
    no-comma ns all =
        All-map (Lacks 44) decimal ns
        (All-weaker (λ n. n ≤ u32_max) (λ n. Lacks 44 (decimal n)) (λ n few. decimal-no_comma n (omega (arith, few))) ns all)

    parts : (ns : List ℕ) → All (λ n. n ≤ u32_max) ns → 0 < length ns
        → parted 44 (joined_by 44 (map decimal ns)) ≡ map decimal ns
    parts [] all some = absurd (omega (arith, some))
    parts (n ∷ ns) all some =
        parted-joined 44 (decimal n) (map decimal ns) refl
        (decimal-no_comma n (omega (arith, All-head (λ n. n ≤ u32_max) n ns all)))
        (no-comma ns (All-tail (λ n. n ≤ u32_max) n ns all))

from-counts : (c : Counts) → length c.of ≡ 8 → from_counts (count_in c) ≡ c
from-counts c eight =
    same_counts (count_in c) (λ r. get_or c.of r 0) (λ r lt. count_in-known c r lt) ∙ sym (eight-counts c eight)

written-at : (c : Counts) (r : ℕ) → r < 8 → get_or (written c) r 0 ≡ count_in c r
written-at c r lt = elim (cases_lt r (used c)) [
  | inl here ↦ get_or-take (used c) (numbers_in c) r 0 here ∙ number-at c r lt
  | inr past ↦
      get_or_past (written c) r 0 (omega (arith, past, length-take-le (used c) (numbers_in c) (used-high c)))
      ∙ sym (used-past c r past lt)
]

written-whole : (c : Counts) → IsCounts c → counts_with (written c) ≡ c
written-whole c is =
    same_counts (λ r. get_or (written c) r 0) (count_in c) (written-at c) ∙ from-counts c is.eight

-- counts are read back from their word
pub counts-back : (c : Counts) → IsCounts c → counts_on (counts_text c) ≡ Ok c
counts-back c is =
    counts_read (counts_text c) (written c)
    (omega (
      arith,
      ap length (parts-of c is),
      length-map (written c) decimal,
      length-take-le (used c) (numbers_in c) (used-high c),
      used-high c,
    ))
    (ap numbers_on (parts-of c is) ∙ numbers-back (written c) (written-few c is))
    ∙ ap Ok (written-whole c is)

-- and it is one word
pub counts-plain : (c : Counts) → IsCounts c → IsPlain (counts_text c)
unfolding counts_text
counts-plain c is =
    joined-plain 44 (map decimal (written c)) refl
    (All-map IsPlain decimal (written c)
    (All-weaker (λ n. n ≤ u32_max) (λ n. IsPlain (decimal n)) (λ n few. decimal-plain n (omega (arith, few))) (written c)
    (written-few c is)))
