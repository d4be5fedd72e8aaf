-- Groups with their records are read back.
use Rattle.std.proofs.Common.{◌≡◌, inl, inr, arith, ℕ, Bool, true, false, List, [], ◌∷◌, ◌++◌, refl, sym, ◌∙◌, ap, append_assoc}
use Rattle.std.specs.Prelude.{if◌then◌else◌, ◌==◌, ◌&&◌}
use Rattle.std.proofs.lemmas.List.{append-nil}
use Rattle.std.proofs.lemmas.Bool.Decides.{nat_tests}
use Rattle.la_journal.specs.Commits.{same_bytes, is_record, Records, groups_from, groups, with_records, last_record, HasNoEnd, AreWhole, AreGroups, AreRecords, ReadingGivesGroups}

pub same_self : (xs : List ℕ) → same_bytes xs xs ≡ true
same_self [] = refl
same_self (x ∷ xs) = (λ i. self x i && same_self xs i)
  where
    self : (x : ℕ) → (x == x) ≡ true
    self x = grind (arith, nat_tests)

module _ (record_of : Records) (are : AreRecords record_of) where
  pub step_end : (before got line bytes : List ℕ) (b : ℕ) → (b == 10) ≡ true → is_record line ≡ false
      → groups_from record_of before got line (b ∷ bytes)
      ≡ groups_from record_of before (got ++ (line ++ 10 ∷ [])) [] bytes
  step_end before got line bytes b is not =
      ap
      (λ (t : Bool).
      if t then
      (if is_record line then
      (if same_bytes line (record_of before got) then got ∷ groups_from record_of line [] [] bytes else [])
      else groups_from record_of before (got ++ (line ++ 10 ∷ [])) [] bytes) else groups_from record_of before
      got (line ++ b ∷ []) bytes) is
      ∙ ap
      (λ (t : Bool).
      if t then
      (if same_bytes line (record_of before got) then got ∷ groups_from record_of line [] [] bytes else [])
      else groups_from record_of before (got ++ (line ++ 10 ∷ [])) [] bytes) not

  pub step_byte : (before got line bytes : List ℕ) (b : ℕ) → (b == 10) ≡ false
      → groups_from record_of before got line (b ∷ bytes) ≡ groups_from record_of before got (line ++ b ∷ []) bytes
  step_byte before got line bytes b is =
      ap
      (λ (t : Bool).
      if t then
      (if is_record line then
      (if same_bytes line (record_of before got) then got ∷ groups_from record_of line [] [] bytes else [])
      else groups_from record_of before (got ++ (line ++ 10 ∷ [])) [] bytes) else groups_from record_of before
      got (line ++ b ∷ []) bytes) is

  pub step_record : (before got line bytes : List ℕ) → is_record line ≡ true → line ≡ record_of before got
      → groups_from record_of before got line (10 ∷ bytes) ≡ got ∷ groups_from record_of line [] [] bytes
  step_record before got line bytes does is =
      ap
      (λ (t : Bool).
      if t then
      (if same_bytes line (record_of before got) then got ∷ groups_from record_of line [] [] bytes else []) else
      groups_from record_of before (got ++ (line ++ 10 ∷ [])) [] bytes) does
      ∙ ap (λ (t : Bool). if t then got ∷ groups_from record_of line [] [] bytes else [])
      (ap (same_bytes line) (sym is) ∙ same_self line)

  -- through the bytes of a line
  pub through : (before got line more rest : List ℕ) → HasNoEnd more
      → groups_from record_of before got line (more ++ rest) ≡ groups_from record_of before got (line ++ more) rest
  through before got line [] rest none =
      ap (λ (l : List ℕ). groups_from record_of before got l rest) (sym (append-nil line))
  through before got line (b ∷ more) rest none =
      step_byte before got line (more ++ rest) b none.0
      ∙ through before got (line ++ b ∷ []) more rest none.1
      ∙ ap (λ (l : List ℕ). groups_from record_of before got l rest) (append_assoc line (b ∷ []) more)

  ten : (b : ℕ) → (b == 10) ≡ true → b ≡ 10
  ten b is = grind (arith, nat_tests)

  -- through the lines of a group
  pub through_group : (before got line g rest : List ℕ) → AreWhole line g
      → groups_from record_of before got line (g ++ rest) ≡ groups_from record_of before (got ++ (line ++ g)) [] rest
  through_group before got line [] rest is =
      ap (λ (l : List ℕ). groups_from record_of before got l rest) is
      ∙ ap (λ (l : List ℕ). groups_from record_of before l [] rest)
      (sym (append-nil got) ∙ ap (λ (l : List ℕ). got ++ l) (sym is ∙ sym (append-nil line)))
  through_group before got line (b ∷ g) rest (inl end) =
      step_end before got line (g ++ rest) b end.0 end.1
      ∙ through_group before (got ++ (line ++ 10 ∷ [])) [] g rest end.2
      ∙ ap (λ (l : List ℕ). groups_from record_of before l [] rest)
      (append_assoc got (line ++ 10 ∷ []) g
      ∙ ap (λ (l : List ℕ). got ++ l)
      (append_assoc line (10 ∷ []) g ∙ ap (λ (x : ℕ). line ++ x ∷ g) (sym (ten b end.0))))
  through_group before got line (b ∷ g) rest (inr go) =
      step_byte before got line (g ++ rest) b go.0
      ∙ through_group before got (line ++ b ∷ []) g rest go.1
      ∙ ap (λ (l : List ℕ). groups_from record_of before (got ++ l) [] rest) (append_assoc line (b ∷ []) g)

  pub one_group : (before g rest : List ℕ) → AreWhole [] g
      → groups record_of before (g ++ (record_of before g ++ 10 ∷ rest)) ≡ g ∷ groups record_of (record_of before g) rest
  one_group before g rest is =
      through_group before [] [] g (record_of before g ++ 10 ∷ rest) is
      ∙ through before g [] (record_of before g) (10 ∷ rest) (are before g).1
      ∙ step_record before g (record_of before g) rest (are before g).0 refl

  pub all_groups : (before : List ℕ) (gs : List (List ℕ)) (rest : List ℕ) → AreGroups gs
      → groups record_of before (with_records record_of before gs ++ rest)
      ≡ gs ++ groups record_of (last_record record_of before gs) rest
  all_groups before [] rest is = refl
  all_groups before (g ∷ gs) rest is =
      ap (groups record_of before)
      (append_assoc g (record_of before g ++ 10 ∷ with_records record_of (record_of before g) gs) rest
      ∙ ap (λ (l : List ℕ). g ++ l)
      (append_assoc (record_of before g) (10 ∷ with_records record_of (record_of before g) gs) rest))
      ∙ one_group before g (with_records record_of (record_of before g) gs ++ rest) is.0
      ∙ ap (λ (l : List (List ℕ)). g ∷ l) (all_groups (record_of before g) gs rest is.1)

pub reading_gives_groups : ReadingGivesGroups
reading_gives_groups record_of first these next torn are so is (inl whole) =
    inr (all_groups record_of are first these torn so
    ∙ ap (λ (l : List (List ℕ)). these ++ l) (ap (groups record_of (last_record record_of first these)) whole ∙ one_group record_of are (last_record record_of first these) next [] is))
reading_gives_groups record_of first these next torn are so is (inr none) =
    inl (all_groups record_of are first these torn so ∙ ap (λ (l : List (List ℕ)). these ++ l) none ∙ append-nil these)
