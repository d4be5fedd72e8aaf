-- Groups are read up to the first line that is a record's, and what is read is there.
use Rattle.std.proofs.Common.{◌≡◌, ◌≢◌, ◌⊎◌, inl, inr, arith, ℕ, ◌+◌, ◌≤◌, Bool, true, false, List, [], ◌∷◌, ◌++◌, refl, sym, ◌∙◌, ap, subst, take, drop, length, append_assoc, take-append-drop}
use Rattle.std.specs.Prelude.{if◌then◌else◌, ◌==◌}
use Rattle.std.proofs.lemmas.List.{append-nil, length-append, length-take-le, take_at, drop_at}
use Rattle.std.proofs.lemmas.Bool.Decides.{nat_tests}
use Rattle.la_journal.specs.Commits.{same_bytes, is_record, Records, groups_from, groups, with_record, with_records, last_record, HasNoEnd, AreWhole, AreGroups, AreRecords}
use Rattle.la_journal.proofs.Recorded.{through, step_end, step_byte, step_record, one_group, all_groups}
use Rattle.la_journal.proofs.TornRecords.{same_are, either}
use Rattle.la_journal.proofs.RecordBytes.{no_ends-append}

-- up to the next line's end
pub cut : (bytes line rest : List ℕ) (at n : ℕ) → at ≤ length bytes → length line ≡ n
    → drop at bytes ≡ line ++ 10 ∷ rest
    → (take (at + (n + 1)) bytes ≡ take at bytes ++ (line ++ 10 ∷ [])) × (drop (at + (n + 1)) bytes ≡ rest)
cut bytes line rest at n within long is =
    let front = take at bytes ++ (line ++ 10 ∷ []) in
    let whole : bytes ≡ front ++ rest =
    sym (take-append-drop at bytes)
    ∙ ap (λ (l : List ℕ). take at bytes ++ l) (is ∙ sym (append_assoc line (10 ∷ []) rest))
    ∙ sym (append_assoc (take at bytes) (line ++ 10 ∷ []) rest) in
    let fits = length-take-le at bytes within in
    let end_count : length front ≡ at + (n + 1) =
    omega
    (arith, length-append (take at bytes) (line ++ 10 ∷ []), length-append line (10 ∷ []), fits) in (
      ap (λ (l : List ℕ). take (at + (n + 1)) l) whole ∙ take_at front rest (at + (n + 1)) end_count,
      ap (λ (l : List ℕ). drop (at + (n + 1)) l) whole ∙ drop_at front rest (at + (n + 1)) end_count,
    )

-- a line more is whole, if it is no record's
pub whole_line : (l more : List ℕ) → HasNoEnd more → is_record (l ++ more) ≡ false → AreWhole l (more ++ 10 ∷ [])
whole_line l [] has not = inl (refl, ap is_record (sym (append-nil l)) ∙ not, refl)
whole_line l (x ∷ more) has not =
    inr (has.0, whole_line (l ++ x ∷ []) more has.1 (ap is_record (append_assoc l (x ∷ []) more) ∙ not))

pub whole_append : (l xs ys : List ℕ) → AreWhole l xs → AreWhole [] ys → AreWhole l (xs ++ ys)
whole_append l [] ys x y = subst (λ (m : List ℕ). AreWhole m ys) (sym x) y
whole_append l (b ∷ xs) ys (inl e) y = inl (e.0, e.1, whole_append [] xs ys e.2 y)
whole_append l (b ∷ xs) ys (inr e) y = inr (e.0, whole_append (l ++ b ∷ []) xs ys e.1 y)

ten : (b : ℕ) → (b == 10) ≡ true → b ≡ 10
ten b is = grind (arith, nat_tests)

module _ (record_of : Records) (are : AreRecords record_of) where
  pub no_record : (before got line rest : List ℕ) → HasNoEnd line → is_record line ≡ false
      → groups_from record_of before got [] (line ++ 10 ∷ rest)
      ≡ groups_from record_of before (got ++ (line ++ 10 ∷ [])) [] rest
  no_record before got line rest has not =
      through record_of are before got [] line (10 ∷ rest) has ∙ step_end record_of are before got line rest 10 refl not

  pub its_record : (before got line rest : List ℕ) → HasNoEnd line → is_record line ≡ true → line ≡ record_of before got
      → groups_from record_of before got [] (line ++ 10 ∷ rest) ≡ got ∷ groups record_of line rest
  its_record before got line rest has does is =
      through record_of are before got [] line (10 ∷ rest) has ∙ step_record record_of are before got line rest does is

  step_other : (before got line bytes : List ℕ) → is_record line ≡ true
      → same_bytes line (record_of before got) ≡ false → groups_from record_of before got line (10 ∷ bytes) ≡ []
  step_other before got line bytes does differs =
      ap
      (λ (t : Bool).
      if t then
      (if same_bytes line (record_of before got) then got ∷ groups_from record_of line [] [] bytes else []) else
      groups_from record_of before (got ++ (line ++ 10 ∷ [])) [] bytes) does
      ∙ ap (λ (t : Bool). if t then got ∷ groups_from record_of line [] [] bytes else []) differs

  pub other_record : (before got line rest : List ℕ) → HasNoEnd line → is_record line ≡ true
      → line ≢ record_of before got → groups_from record_of before got [] (line ++ 10 ∷ rest) ≡ []
  other_record before got line rest has does not =
      through record_of are before got [] line (10 ∷ rest) has
      ∙ elim (either (same_bytes line (record_of before got))) [
        | inl same ↦ absurd (not (same_are line (record_of before got) same))
        | inr differs ↦ step_other before got line rest does differs
      ]

  pub no_line : (before got rest : List ℕ) → HasNoEnd rest → groups_from record_of before got [] rest ≡ []
  no_line before got rest has =
      ap (groups_from record_of before got []) (sym (append-nil rest)) ∙ through record_of are before got [] rest [] has

  -- what is read, and what is behind it
  abbrev pub Reads : (before bytes : List ℕ) → List (List ℕ) → Type 0
  Reads before bytes gs =
      (tail : List ℕ) × (bytes ≡ with_records record_of before gs ++ tail) × AreGroups gs
      × (groups record_of (last_record record_of before gs) tail ≡ [])

  abbrev Either : (before bytes : List ℕ) → List (List ℕ) → Type 0
  Either before bytes gs = (gs ≡ []) ⊎ Reads before bytes gs

  full : (before bytes : List ℕ) → Either before bytes (groups record_of before bytes)
      → Reads before bytes (groups record_of before bytes)
  full before bytes (inl none) = subst (Reads before bytes) (sym none) (bytes, refl, tt, none)
  full before bytes (inr is) = is

  -- with one more in front
  one_more : (before got line bytes : List ℕ) (gs : List (List ℕ)) → AreWhole [] got → line ≡ record_of before got
      → Reads line bytes gs → Reads before (got ++ (line ++ 10 ∷ bytes)) (got ∷ gs)
  one_more before got line bytes gs whole is reads =
      let at = subst (λ (l : List ℕ). Reads l bytes gs) is reads in (
        at.0,
        (λ i. got ++ (is i ++ 10 ∷ at.1 i))
            ∙ sym (append_assoc got (record_of before got ++ 10 ∷ with_records record_of (record_of before got) gs) at.0
            ∙ ap (λ (l : List ℕ). got ++ l)
            (append_assoc (record_of before got) (10 ∷ with_records record_of (record_of before got) gs) at.0)),
        (whole, at.2),
        at.3,
      )

  moved : (before xs ys : List ℕ) (gs hs : List (List ℕ)) → xs ≡ ys → gs ≡ hs → Either before xs gs
      → Either before ys hs
  moved before xs ys gs hs same is at =
      subst (λ (l : List ℕ). Either before l hs) same (subst (Either before xs) is at)

  reads_from : (before got line bytes : List ℕ) → AreWhole [] got → HasNoEnd line
      → Either before (got ++ (line ++ bytes)) (groups_from record_of before got line bytes)
  reads_from before got line [] whole has = inl refl
  reads_from before got line (b ∷ bytes) whole has = elim (either (b == 10)) [
    | inr go ↦ moved before (got ++ ((line ++ b ∷ []) ++ bytes)) (got ++ (line ++ b ∷ bytes)) _ _
        (ap (λ (l : List ℕ). got ++ l) (append_assoc line (b ∷ []) bytes))
        (sym (step_byte record_of are before got line bytes b go))
        (reads_from before got (line ++ b ∷ []) bytes whole (no_ends-append line (b ∷ []) has (go, tt)))
    | inl end ↦ elim (either (is_record line)) [
      | inr not ↦ moved before ((got ++ (line ++ 10 ∷ [])) ++ ([] ++ bytes)) (got ++ (line ++ b ∷ bytes)) _ _
          (append_assoc got (line ++ 10 ∷ []) bytes
          ∙ ap (λ (l : List ℕ). got ++ l)
          (append_assoc line (10 ∷ []) bytes ∙ ap (λ (x : ℕ). line ++ x ∷ bytes) (sym (ten b end))))
          (sym (step_end record_of are before got line bytes b end not))
          (reads_from before (got ++ (line ++ 10 ∷ [])) [] bytes
          (whole_append [] got (line ++ 10 ∷ []) whole (whole_line [] line has not)) tt)
      | inl does ↦ elim (either (same_bytes line (record_of before got))) [
        | inr differs ↦ inl (ap (λ (x : ℕ). groups_from record_of before got line (x ∷ bytes)) (ten b end)
            ∙ step_other before got line bytes does differs)
        | inl same ↦
            let is = same_are line (record_of before got) same in
            moved before (got ++ (line ++ 10 ∷ bytes)) (got ++ (line ++ b ∷ bytes)) _ _
            (ap (λ (x : ℕ). got ++ (line ++ x ∷ bytes)) (sym (ten b end)))
            (sym (ap (λ (x : ℕ). groups_from record_of before got line (x ∷ bytes)) (ten b end)
            ∙ step_record record_of are before got line bytes does is))
            (inr (one_more before got line bytes (groups record_of line bytes) whole is
            (full line bytes (reads_from line [] [] bytes refl tt))))
      ]
    ]
  ]

  pub reads : (before bytes : List ℕ) → Reads before bytes (groups record_of before bytes)
  reads before bytes = full before bytes (reads_from before [] [] bytes refl tt)

  -- what is behind
  abbrev pub rest_of : (before bytes : List ℕ) → List ℕ
  rest_of before bytes = drop (length (with_records record_of before (groups record_of before bytes))) bytes

  tail_is : (before bytes : List ℕ) → rest_of before bytes ≡ (reads before bytes).0
  tail_is before bytes =
      let w = with_records record_of before (groups record_of before bytes) in
      ap (λ (l : List ℕ). drop (length w) l) (reads before bytes).1 ∙ drop_at w (reads before bytes).0 (length w) refl

  pub are_groups_and_rest : (before bytes : List ℕ)
      → (bytes ≡ with_records record_of before (groups record_of before bytes) ++ rest_of before bytes)
      × (groups record_of (last_record record_of before (groups record_of before bytes)) (rest_of before bytes) ≡ [])
  are_groups_and_rest before bytes =
      let these = groups record_of before bytes in (
        (reads before bytes).1
            ∙ ap (λ (l : List ℕ). with_records record_of before these ++ l) (sym (tail_is before bytes)),
        ap (groups record_of (last_record record_of before these)) (tail_is before bytes) ∙ (reads before bytes).3,
      )

  -- bytes that are these groups with something behind
  pub rest_is : (before bytes tail : List ℕ) (gs : List (List ℕ)) → groups record_of before bytes ≡ gs
      → bytes ≡ with_records record_of before gs ++ tail → rest_of before bytes ≡ tail
  rest_is before bytes tail gs reads_ is =
      ap (λ (g : List (List ℕ)). drop (length (with_records record_of before g)) bytes) reads_
      ∙ ap (λ (l : List ℕ). drop (length (with_records record_of before gs)) l) is
      ∙ drop_at (with_records record_of before gs) tail (length (with_records record_of before gs)) refl

  with_more : (before group : List ℕ) (gs : List (List ℕ)) → with_records record_of before (gs ++ group ∷ [])
      ≡ with_records record_of before gs ++ with_record record_of (last_record record_of before gs) group
  with_more before group [] = refl
  with_more before group (g ∷ gs) =
      ap (λ (l : List ℕ). g ++ (record_of before g ++ 10 ∷ l)) (with_more (record_of before g) group gs)
      ∙ sym (append_assoc g (record_of before g ++ 10 ∷ with_records record_of (record_of before g) gs) _
      ∙ ap (λ (l : List ℕ). g ++ l)
      (append_assoc (record_of before g) (10 ∷ with_records record_of (record_of before g) gs) _))

  -- nothing is behind
  all_of : (before bytes : List ℕ) → rest_of before bytes ≡ []
      → bytes ≡ with_records record_of before (groups record_of before bytes)
  all_of before bytes none =
      (are_groups_and_rest before bytes).0
      ∙ ap (λ (l : List ℕ). with_records record_of before (groups record_of before bytes) ++ l) none
      ∙ append-nil (with_records record_of before (groups record_of before bytes))

  -- then what is put behind is read behind
  read_on : (before bytes more : List ℕ) → rest_of before bytes ≡ []
      → groups record_of before (bytes ++ more)
      ≡ groups record_of before bytes
      ++ groups record_of (last_record record_of before (groups record_of before bytes)) more
  read_on before bytes more none =
      ap (λ (l : List ℕ). groups record_of before (l ++ more)) (all_of before bytes none)
      ∙ all_groups record_of are before (groups record_of before bytes) more (reads before bytes).2

  pub grows : (before bytes group : List ℕ) → rest_of before bytes ≡ [] → AreWhole [] group
      → let these = groups record_of before bytes in
      let grown = bytes ++ with_record record_of (last_record record_of before these) group in
      (groups record_of before grown ≡ these ++ group ∷ []) × (rest_of before grown ≡ [])
  grows before bytes group none whole =
      let these = groups record_of before bytes in
      let last = last_record record_of before these in
      let more = with_record record_of last group in
      let read : groups record_of before (bytes ++ more) ≡ these ++ group ∷ [] =
      read_on before bytes more none
      ∙ ap (λ (g : List (List ℕ)). these ++ g) (one_group record_of are last group [] whole) in (
        read,
        rest_is before (bytes ++ more) [] (these ++ group ∷ []) read
            (ap (λ (l : List ℕ). l ++ more) (all_of before bytes none) ∙ sym (with_more before group these)
            ∙ sym (append-nil (with_records record_of before (these ++ group ∷ [])))),
      )

  pub others : (before bytes more : List ℕ) → rest_of before bytes ≡ []
      → groups record_of (last_record record_of before (groups record_of before bytes)) more ≡ []
      → (groups record_of before (bytes ++ more) ≡ groups record_of before bytes)
      × (rest_of before (bytes ++ more) ≡ more)
  others before bytes more none not =
      let these = groups record_of before bytes in
      let read : groups record_of before (bytes ++ more) ≡ these =
      read_on before bytes more none ∙ ap (λ (g : List (List ℕ)). these ++ g) not ∙ append-nil these in (
        read,
        rest_is before (bytes ++ more) more these read (ap (λ (l : List ℕ). l ++ more) (all_of before bytes none)),
      )
