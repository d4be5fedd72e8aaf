-- What a crash leaves of one group is no damage.
use Rattle.std.proofs.Common.{◌≡◌, ◌⊎◌, inl, inr, arith, ℕ, suc, ◌-◌, ◌^◌, ◌<◌, ◌≤◌, Bool, true, false, List, [], ◌∷◌, ◌++◌, Some, refl, sym, ◌∙◌, ap, subst, take, drop, length, reverse}
use Rattle.std.specs.Prelude.{⊤, if◌then◌else◌, ◌==◌}
use Rattle.std.specs.Fmt.{decimal}
use Rattle.std.proofs.lemmas.List.{append-nil, append_cancel_left, length-append, length-reverse, reverse-reverse, take_all, take_at, drop_at}
use Rattle.std.proofs.lemmas.Bool.{false≢true}
use Rattle.std.proofs.lemmas.Bool.Decides.{nat_tests}
use Rattle.la_journal.specs.Commits.{IsTorn}
use Rattle.la_journal.specs.Lines.{file_of}
use Rattle.la_journal.specs.Commits.{same_bytes, is_record, with_record, HasNoEnd, HasNoZero, AreWhole, IsSpoilt, NoneCollides}
use Rattle.la_journal.specs.Records.{digest, link, end_count, record_of, record_line, ended_from, ended, unended_from, unended, number_from, stated_link, IsRecordOfLast, RecordStands, IsRunOn, IsGroupDamage, TornIsNoDamage}
use Rattle.la_journal.proofs.Recorded.{same_self}
use Rattle.la_journal.proofs.TornRecords.{same_are, either, still, not_empty, ends_not, as_written}
use Rattle.la_journal.proofs.Digests.{length-digest}
use Rattle.la_journal.proofs.RecordBytes.{are_records, no_zero_of, link-hex}
use Rattle.la_journal.proofs.Ended.{ended_end, ended_byte, unended_end, unended_byte, ended-append, one_ended, whole_lines}
use Rattle.la_journal.proofs.LastLines.{states}
use Rattle.la_journal.proofs.Told.{ends_lines, reverse_more}

-- none is a record's
abbrev Plain : List (List ℕ) → Type 0
Plain [] = ⊤
Plain (line ∷ rest) = (is_record line ≡ false) × Plain rest

ten : (b : ℕ) → (b == 10) ≡ true → b ≡ 10
ten b is = grind (arith, nat_tests)

-- among plain lines no record stands
plain_none : (acc ls : List (List ℕ)) → Plain ls → RecordStands acc ls → ⊥
plain_none acc [] plain is = absurd is
plain_none acc (l ∷ ls) plain (inl is) = false≢true (sym plain.0 ∙ ap is_record is.2)
plain_none acc (l ∷ ls) plain (inr is) = plain_none (l ∷ acc) ls plain.1 is

plain_goes : (ls : List (List ℕ)) → Plain ls → IsRunOn ls → ⊥
plain_goes [] plain is = absurd is
plain_goes (l ∷ []) plain is = absurd is
plain_goes (l ∷ m ∷ ls) plain (inl is) = false≢true (sym plain.0 ∙ is)
plain_goes (l ∷ m ∷ ls) plain (inr is) = plain_goes (m ∷ ls) plain.1 is

-- nor one with something behind, where the last line may be one
last_goes : (ls : List (List ℕ)) (l : List ℕ) → Plain ls → IsRunOn (ls ++ l ∷ []) → ⊥
last_goes [] l plain is = absurd is
last_goes (x ∷ []) l plain (inl is) = false≢true (sym plain.0 ∙ is)
last_goes (x ∷ []) l plain (inr is) = absurd is
last_goes (x ∷ y ∷ ls) l plain (inl is) = false≢true (sym plain.0 ∙ is)
last_goes (x ∷ y ∷ ls) l plain (inr is) = last_goes (y ∷ ls) l plain.1 is

last_stands : (acc ls : List (List ℕ)) (l : List ℕ) → Plain ls → RecordStands acc (ls ++ l ∷ [])
    → IsRecordOfLast (reverse ls ++ acc) l
last_stands acc [] l plain (inl is) = is
last_stands acc [] l plain (inr is) = absurd is
last_stands acc (x ∷ ls) l plain (inl is) = absurd (false≢true (sym plain.0 ∙ ap is_record is.2))
last_stands acc (x ∷ ls) l plain (inr is) =
    subst (λ (b : List (List ℕ)). IsRecordOfLast b l) (sym (reverse_more x ls acc))
    (last_stands (x ∷ acc) ls l plain.1 is)

-- behind the start of a line that is no record's
no_match : (x : ℕ) (line r torn : List ℕ) → is_record (x ∷ line) ≡ false → HasNoEnd r → IsTorn (r ++ 10 ∷ []) torn
    → Plain (ended_from (x ∷ line) torn)
no_match x line r [] not has is = tt
no_match x line [] (t ∷ []) not has is = elim (either (t == 10)) [
  | inl end ↦ subst Plain (sym (ended_end (x ∷ line) [] t end)) (not, tt)
  | inr go ↦ subst Plain (sym (ended_byte (x ∷ line) [] t go)) tt
]
no_match x line [] (t ∷ u ∷ torn) not has is = absurd is.1
no_match x line (b ∷ r) (t ∷ torn) not has is =
    subst Plain (sym (ended_byte (x ∷ line) torn t (ends_not t b is.0 has.0)))
    (no_match x (line ++ t ∷ []) r torn not has.1 is.1)

-- of a record's line nothing has an end, or all is there
scan_record : (line r torn : List ℕ) → HasNoEnd r → IsTorn (r ++ 10 ∷ []) torn
    → (ended_from line torn ≡ []) ⊎ ((s : List ℕ) × (torn ≡ s ++ 10 ∷ []) × IsSpoilt r s)
scan_record line r [] has is = inl refl
scan_record line [] (t ∷ []) has is = elim (either (t == 10)) [
  | inl end ↦ inr ([], ap (λ (x : ℕ). x ∷ []) (ten t end), tt)
  | inr go ↦ inl (ended_byte line [] t go)
]
scan_record line [] (t ∷ u ∷ torn) has is = absurd is.1
scan_record line (b ∷ r) (t ∷ torn) has is = elim (scan_record (line ++ t ∷ []) r torn has.1 is.1) [
  | inl none ↦ inl (ended_byte line torn t (ends_not t b is.0 has.0) ∙ none)
  | inr all ↦ inr (t ∷ all.0, ap (λ (l : List ℕ). t ∷ l) all.1, (is.0, all.2))
]

module _ (r : List ℕ) (has : HasNoEnd r) where
  -- no line is a record's, or all is there, and only the last one is
  abbrev Left : (line g torn : List ℕ) → Type 0
  Left line g torn =
      Plain (ended_from line torn)
      ⊎ ((sg : List ℕ) × (sr : List ℕ) × (torn ≡ sg ++ (sr ++ 10 ∷ [])) × IsSpoilt g sg × IsSpoilt r sr
      × Plain (ended_from line sg) × (unended_from line sg ≡ []))

  scan : (line line_o g torn : List ℕ) → AreWhole line_o g → is_record line ≡ false → (line ≡ [] → line_o ≡ [])
      → IsTorn (g ++ (r ++ 10 ∷ [])) torn → Left line g torn
  scan [] line_o [] torn whole not begun is = elim (scan_record [] r torn has is) [
    | inl none ↦ inl (subst Plain (sym none) tt)
    | inr all ↦ inr ([], all.0, all.1, tt, all.2, tt, refl)
  ]
  scan (x ∷ line) line_o [] torn whole not begun is = inl (no_match x line r torn not has is)
  scan line line_o (b ∷ g) [] whole not begun is = inl tt
  scan line line_o (b ∷ g) (t ∷ torn) whole not begun is = elim (either (t == 10)) [
    | inl end ↦ elim (scan [] [] g torn (after_end t end is.0 whole) refl (λ e. refl) is.1) [
      | inl plain ↦ inl (subst Plain (sym (ended_end line torn t end)) (not, plain))
      | inr w ↦ inr (
        t ∷ w.0,
        w.1,
        ap (λ (l : List ℕ). t ∷ l) w.2,
        (is.0, w.3),
        w.4,
        subst Plain (sym (ended_end line w.0 t end)) (not, w.5),
        unended_end line w.0 t end ∙ w.6,
      )
    ]
    | inr go ↦ elim (goes t go is.0 whole) [
      | inl fresh ↦ on t go is (scan (line ++ t ∷ []) [] g torn fresh (no_ t go is.0) (λ e. absurd (not_empty line t
          e)) is.1)
      | inr same ↦ on t go is (scan (line ++ t ∷ []) (line_o ++ b ∷ []) g torn same (no_ t go is.0)
          (λ e. absurd (not_empty line t e)) is.1)
    ]
  ]
    where
      no_ : (t : ℕ) → (t == 10) ≡ false → (t ≡ b) ⊎ (t ≡ 0) → is_record (line ++ t ∷ []) ≡ false
      no_ t go w = still line b t line_o g not begun w go whole

      after_end : (t : ℕ) → (t == 10) ≡ true → (t ≡ b) ⊎ (t ≡ 0) → AreWhole line_o (b ∷ g) → AreWhole [] g
      after_end t end w (inl e) = e.2
      after_end t end (inl same) (inr e) = absurd (false≢true (sym e.0 ∙ ap (λ (x : ℕ). x == 10) (sym same) ∙ end))
      after_end t end (inr zero) (inr e) = absurd (false≢true (ap (λ (x : ℕ). x == 10) (sym zero) ∙ end))

      goes : (t : ℕ) → (t == 10) ≡ false → (t ≡ b) ⊎ (t ≡ 0) → AreWhole line_o (b ∷ g)
          → AreWhole [] g ⊎ AreWhole (line_o ++ b ∷ []) g
      goes t go w (inl e) = inl e.2
      goes t go w (inr e) = inr e.1

      on : (t : ℕ) → (t == 10) ≡ false → IsTorn (b ∷ (g ++ (r ++ 10 ∷ []))) (t ∷ torn) → Left (line ++ t ∷ []) g torn
          → Left line (b ∷ g) (t ∷ torn)
      on t go is (inl plain) = inl (subst Plain (sym (ended_byte line torn t go)) plain)
      on t go is (inr w) =
          inr (
            t ∷ w.0,
            w.1,
            ap (λ (l : List ℕ). t ∷ l) w.2,
            (is.0, w.3),
            w.4,
            subst Plain (sym (ended_byte line w.0 t go)) w.5,
            unended_byte line w.0 t go ∙ w.6,
          )

spoilt_length : (g s : List ℕ) → IsSpoilt g s → length s ≡ length g
spoilt_length [] [] is = refl
spoilt_length [] (t ∷ s) is = absurd is
spoilt_length (b ∷ g) [] is = absurd is
spoilt_length (b ∷ g) (t ∷ s) is = ap suc (spoilt_length g s is.1)

spoilt_no_end : (r s : List ℕ) → HasNoEnd r → IsSpoilt r s → HasNoEnd s
spoilt_no_end r [] has is = tt
spoilt_no_end [] (t ∷ s) has is = absurd is
spoilt_no_end (b ∷ r) (t ∷ s) has is = (ends_not t b is.0 has.0, spoilt_no_end r s has.1 is.1)

ends_at : (b : ℕ) (xs : List ℕ) → (b == 10) ≡ true → end_count (b ∷ xs) ≡ suc (end_count xs)
ends_at b xs is = ap (λ (t : Bool). if t then suc (end_count xs) else end_count xs) is

ends_on : (b : ℕ) (xs : List ℕ) → (b == 10) ≡ false → end_count (b ∷ xs) ≡ end_count xs
ends_on b xs is = ap (λ (t : Bool). if t then suc (end_count xs) else end_count xs) is

-- a crash makes no line's end
spoilt_ends : (g s : List ℕ) → IsSpoilt g s → end_count s ≤ end_count g
spoilt_ends g [] is = omega arith
spoilt_ends [] (t ∷ s) is = absurd is
spoilt_ends (b ∷ g) (t ∷ s) is = elim (either (b == 10)) [
  | inl end ↦ elim (either (t == 10)) [
    | inl too ↦ omega (arith, ends_at b g end, ends_at t s too, spoilt_ends g s is.1)
    | inr not ↦ omega (arith, ends_at b g end, ends_on t s not, spoilt_ends g s is.1)
  ]
  | inr go ↦ omega (arith, ends_on b g go, ends_on t s (ends_not t b is.0 go), spoilt_ends g s is.1)
]

pub few_ends : (xs : List ℕ) → end_count xs ≤ length xs
few_ends [] = omega arith
few_ends (b ∷ xs) = elim (either (b == 10)) [
  | inl end ↦ omega (arith, ends_at b xs end, few_ends xs)
  | inr go ↦ omega (arith, ends_on b xs go, few_ends xs)
]

-- ends of one length
same_ends : (p d q e : List ℕ) → length d ≡ length e → p ++ d ≡ q ++ e → (p ≡ q) × (d ≡ e)
same_ends p d q e long is =
    let fronts : length p ≡ length q = omega (arith, ap length is, length-append p d, length-append q e, long) in (
      sym (take_at p d (length p) refl) ∙ ap (take (length p)) is ∙ take_at q e (length p) (sym fronts),
      sym (drop_at p d (length p) refl) ∙ ap (drop (length p)) is ∙ drop_at q e (length p) (sym fronts),
    )

-- records that are the same are of as many lines, behind the same digest, and have the same digest
record_parts : (n m : ℕ) (p q g h : List ℕ) → n < 2 ^ 64 → m < 2 ^ 64 → record_of n p g ≡ record_of m q h
    → (n ≡ m) × (p ≡ q) × (digest (p ++ g) ≡ digest (q ++ h))
record_parts n m p q g h few too is =
    let x = p ++ 32 ∷ digest (p ++ g) in
    let y = q ++ 32 ∷ digest (q ++ h) in
    let rest : decimal n ++ 32 ∷ x ≡ decimal m ++ 32 ∷ y = append_cancel_left (126 ∷ 32 ∷ []) _ _ is in
    let same : n ≡ m = some_same n m (sym (states n x few) ∙ ap (number_from 0) rest ∙ states m y too) in
    let behind : 32 ∷ x ≡ 32 ∷ y =
    append_cancel_left (decimal n) (32 ∷ x) (32 ∷ y) (rest ∙ ap (λ (k : ℕ). decimal k ++ 32 ∷ y) (sym same)) in
    let both =
    same_ends p (32 ∷ digest (p ++ g)) q (32 ∷ digest (q ++ h))
    (omega (arith, length-digest (p ++ g), length-digest (q ++ h))) (append_cancel_left (32 ∷ []) x y behind) in
    (same, both.0, append_cancel_left (32 ∷ []) (digest (p ++ g)) (digest (q ++ h)) both.1)
  where
    some_same : (n m : ℕ) → Some n ≡ Some m → n ≡ m
    some_same n m e = cc

module _ (before next sg sr : List ℕ) (small : length next < 2 ^ 64) (none : NoneCollides record_line before next)
    (spoilt : IsSpoilt next sg) (record_ : IsSpoilt (record_line before next) sr) (whole : unended sg ≡ []) where
  lines_few : length (ended sg) ≤ end_count next
  lines_few = omega (arith, spoilt_ends next sg spoilt, ends_lines [] sg)

  is_whole : IsRecordOfLast (reverse (ended sg)) sr → (sg ≡ next) × (sr ≡ record_line before next)
  is_whole is =
      let n = is.0 in
      let lines = reverse (ended sg) in
      let given = file_of (reverse (take n lines)) in
      let zeros = subst HasNoZero (sym is.2) (no_zero_of n (stated_link sr) given (link-hex (take (length sr - 17)
      sr))) in
      let written : sr ≡ record_line before next = as_written (record_line before next) sr zeros record_ in
      let few : n ≤ length (ended sg) = omega (arith, is.1, length-reverse (ended sg)) in
      let bound = few_ends next in
      let parts =
      record_parts n (end_count next) (stated_link sr) (link before) given next (omega (
        arith,
        few,
        lines_few,
        bound,
        small,
      ))
      (omega (arith, bound, small)) (sym is.2 ∙ written) in
      let all : length lines ≤ n = omega (arith, parts.0, lines_few, length-reverse (ended sg)) in
      let these : given ≡ sg =
      ap (λ (l : List (List ℕ)). file_of (reverse l)) (take_all n lines all)
      ∙ ap file_of (reverse-reverse (ended sg))
      ∙ whole_lines sg whole in
      let count : end_count sg ≡ end_count next = omega (
        arith,
        ends_lines [] sg,
        parts.0,
        all,
        few,
        length-reverse
            (ended sg),
      ) in
      let digests : digest (link before ++ sg) ≡ digest (link before ++ next) =
      (λ i. digest (sym parts.1 i ++ sym these i)) ∙ parts.2 in (
        none sg spoilt (λ i. 126 ∷ 32 ∷ (decimal (count i) ++ 32 ∷ (link before ++ 32 ∷ digests i))),
        written,
      )

pub torn_is_no_damage : TornIsNoDamage
torn_is_no_damage before next torn small whole none is =
    let r = record_line before next in
    let has = (are_records before next).1 in
    elim (scan r has [] [] next torn whole refl (λ e. refl) is) [
      | inl plain ↦ inr (undamaged plain)
      | inr w ↦ elim (either (same_bytes torn (with_record record_line before next))) [
        | inl same ↦ inl (same_are torn (with_record record_line before next) same)
        | inr differs ↦ inr (λ d. absurd (false≢true (sym differs
            ∙ ap (same_bytes torn) (sym (all_of w.0 w.1 w.2 w.3 w.4 w.5 w.6 (spoilt_no_end r w.1 has w.4) d))
            ∙ same_self torn)))
      ]
    ]
  where
    undamaged : Plain (ended torn) → IsGroupDamage torn → ⊥
    undamaged plain (inl stands) = plain_none [] (ended torn) plain stands
    undamaged plain (inr goes) = plain_goes (ended torn) plain goes

    lines_are : (sg sr : List ℕ) → torn ≡ sg ++ (sr ++ 10 ∷ []) → unended sg ≡ [] → HasNoEnd sr
        → ended torn ≡ ended sg ++ sr ∷ []
    lines_are sg sr splits ends_ has =
        ap ended splits
        ∙ ended-append [] sg (sr ++ 10 ∷ [])
        ∙ ap (λ (l : List ℕ). ended sg ++ ended_from l (sr ++ 10 ∷ [])) ends_
        ∙ ap (λ (l : List (List ℕ)). ended sg ++ l) (one_ended [] sr [] has)

    all_of : (sg sr : List ℕ) → torn ≡ sg ++ (sr ++ 10 ∷ []) → IsSpoilt next sg → IsSpoilt (record_line before next) sr
        → Plain (ended sg) → unended sg ≡ [] → HasNoEnd sr → IsGroupDamage torn
        → torn ≡ with_record record_line before next
    all_of sg sr splits spoilt record_ plain ends_ has (inl stands) =
        let lines = lines_are sg sr splits ends_ has in
        let found =
        subst (λ (b : List (List ℕ)). IsRecordOfLast b sr) (append-nil (reverse (ended sg)))
        (last_stands [] (ended sg) sr plain (subst (RecordStands []) lines stands)) in
        let both = is_whole before next sg sr small none spoilt record_ ends_ found in
        splits ∙ (λ i. both.0 i ++ (both.1 i ++ 10 ∷ []))
    all_of sg sr splits spoilt record_ plain ends_ has (inr goes) =
        absurd (last_goes (ended sg) sr plain (subst IsRunOn (lines_are sg sr splits ends_ has) goes))
