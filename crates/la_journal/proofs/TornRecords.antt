-- A torn group is not read.
use Rattle.std.proofs.Common.{◌≡◌, ◌⊎◌, inl, inr, arith, ℕ, Bool, true, false, List, [], ◌∷◌, ◌++◌, refl, sym, ◌∙◌, ap, subst, append_assoc, length}
use Rattle.std.specs.Prelude.{if◌then◌else◌, ◌==◌, ◌&&◌}
use Rattle.std.proofs.lemmas.List.{append-nil, length-append}
use Rattle.std.proofs.lemmas.Bool.{false≢true}
use Rattle.std.proofs.lemmas.Bool.Decides.{nat_tests}
use Rattle.la_journal.specs.Commits.{IsTorn}
use Rattle.la_journal.specs.Commits.{same_bytes, is_record, Records, groups_from, HasNoEnd, HasNoZero, AreWhole, AreRecords, IsSpoilt, NoneCollides, TornGroupsAreNotRead}
use Rattle.la_journal.proofs.Recorded.{step_end, step_byte}

spoilt_append : (xs ys xt yt : List ℕ) → IsSpoilt xs xt → IsSpoilt ys yt → IsSpoilt (xs ++ ys) (xt ++ yt)
spoilt_append [] ys [] yt x y = y
spoilt_append [] ys (t ∷ xt) yt x y = absurd x
spoilt_append (b ∷ xs) ys [] yt x y = absurd x
spoilt_append (b ∷ xs) ys (t ∷ xt) yt x y = (x.0, spoilt_append xs ys xt yt x.1 y)

-- where no 0 is, a spoilt line is the line
pub as_written : (line torn : List ℕ) → HasNoZero torn → IsSpoilt line torn → torn ≡ line
as_written [] [] none is = refl
as_written [] (t ∷ torn) none is = absurd is
as_written (b ∷ line) [] none is = absurd is
as_written (b ∷ line) (t ∷ torn) none is = elim is.0 [
  | inl same ↦ (λ i. same i ∷ as_written line torn none.1 is.1 i)
  | inr zero ↦ absurd (none.0 zero)
]

pub same_are : (xs ys : List ℕ) → same_bytes xs ys ≡ true → xs ≡ ys
same_are [] [] is = refl
same_are [] (y ∷ ys) is = absurd (false≢true is)
same_are (x ∷ xs) [] is = absurd (false≢true is)
same_are (x ∷ xs) (y ∷ ys) is =
    let both = parts (x == y) (same_bytes xs ys) is in (λ i. equal x y both.0 i ∷ same_are xs ys both.1 i)
  where
    parts : (a b : Bool) → (a && b) ≡ true → (a ≡ true) × (b ≡ true)
    parts true b is = (refl, is)
    parts false b is = absurd (false≢true is)

    equal : (x y : ℕ) → (x == y) ≡ true → x ≡ y
    equal x y is = grind (arith, nat_tests)

pub either : (b : Bool) → (b ≡ true) ⊎ (b ≡ false)
either true = inl refl
either false = inr refl

pub ends_not : (t b : ℕ) → (t ≡ b) ⊎ (t ≡ 0) → (b == 10) ≡ false → (t == 10) ≡ false
ends_not t b (inl same) is = ap (λ (x : ℕ). x == 10) same ∙ is
ends_not t b (inr zero) is = ap (λ (x : ℕ). x == 10) zero

-- a line that a crash spoilt begins as a record's only where it did so before
spoilt_first : (line torn : List ℕ) → IsSpoilt line torn → is_record line ≡ false → is_record torn ≡ false
spoilt_first [] [] is no_ = refl
spoilt_first [] (t ∷ torn) is no_ = absurd is
spoilt_first (b ∷ line) [] is no_ = absurd is
spoilt_first (b ∷ line) (t ∷ torn) is no_ = elim is.0 [
  | inl same ↦ ap (λ (x : ℕ). x == 126) same ∙ no_
  | inr zero ↦ ap (λ (x : ℕ). x == 126) zero
]

-- in a group a line that has begun is no record's
group_line : (x : ℕ) (line g : List ℕ) → AreWhole (x ∷ line) g → is_record (x ∷ line) ≡ false
group_line x line [] is = absurd (omega (arith, ap length is))
group_line x line (b ∷ g) (inl end) = end.1
group_line x line (b ∷ g) (inr go) = group_line x (line ++ b ∷ []) g go.1

first_byte : (b t : ℕ) (g : List ℕ) → (t ≡ b) ⊎ (t ≡ 0) → (t == 10) ≡ false → AreWhole [] (b ∷ g)
    → is_record (t ∷ []) ≡ false
first_byte b t g (inr zero) go is = ap (λ (x : ℕ). x == 126) zero
first_byte b t g (inl same) go (inl end) = absurd (false≢true (sym go ∙ ap (λ (x : ℕ). x == 10) same ∙ end.0))
first_byte b t g (inl same) go (inr on) = ap (λ (x : ℕ). x == 126) same ∙ group_line b [] g on.1

pub still : (line : List ℕ) (b t : ℕ) (line_o g : List ℕ) → is_record line ≡ false → (line ≡ [] → line_o ≡ [])
    → (t ≡ b) ⊎ (t ≡ 0) → (t == 10) ≡ false → AreWhole line_o (b ∷ g) → is_record (line ++ t ∷ []) ≡ false
still [] b t line_o g not begun is go group =
    first_byte b t g is go (subst (λ (l : List ℕ). AreWhole l (b ∷ g)) (begun refl) group)
still (x ∷ line) b t line_o g not begun is go group = not

pub not_empty : (line : List ℕ) (t : ℕ) → line ++ t ∷ [] ≡ [] → ⊥
not_empty line t is = omega (arith, ap length is, length-append line (t ∷ []))

module _ (record_of : Records) (are : AreRecords record_of) (before next : List ℕ) where
  module _ (no_zero : (group : List ℕ) → HasNoZero (record_of before group)) (none : NoneCollides record_of before next)
    where
      -- behind the start of a line that is no record's
      no_match : (got : List ℕ) (x : ℕ) (line r torn : List ℕ) → is_record (x ∷ line) ≡ false → HasNoEnd r
          → IsTorn (r ++ 10 ∷ []) torn → groups_from record_of before got (x ∷ line) torn ≡ []
      no_match got x line r [] not has is = refl
      no_match got x line [] (t ∷ []) not has is = elim (either (t == 10)) [
        | inl end ↦ step_end record_of are before got (x ∷ line) [] t end not
        | inr go ↦ step_byte record_of are before got (x ∷ line) [] t go
      ]
      no_match got x line [] (t ∷ u ∷ torn) not has is = absurd is.1
      no_match got x line (b ∷ r) (t ∷ torn) not has is =
          step_byte record_of are before got (x ∷ line) torn t (ends_not t b is.0 has.0)
          ∙ no_match got x (line ++ t ∷ []) r torn not has.1 is.1

      step_none : (got line : List ℕ) (b : ℕ) → (b == 10) ≡ true → is_record line ≡ true
          → same_bytes line (record_of before got) ≡ false → groups_from record_of before got line (b ∷ []) ≡ []
      step_none got line b end does not =
          ap
          (λ (t : Bool).
          if t then
          (if is_record line then
          (if same_bytes line (record_of before got) then got ∷ groups_from record_of line [] [] [] else [])
          else groups_from record_of before (got ++ (line ++ 10 ∷ [])) [] []) else groups_from record_of before
          got (line ++ b ∷ []) []) end
          ∙ ap
          (λ (t : Bool).
          if t then
          (if same_bytes line (record_of before got) then got ∷ groups_from record_of line [] [] [] else []) else
          groups_from record_of before (got ++ (line ++ 10 ∷ [])) [] []) does
          ∙ ap (λ (t : Bool). if t then got ∷ groups_from record_of line [] [] [] else []) not

      ten_is : (t : ℕ) → (t == 10) ≡ true → t ≡ 10
      ten_is t is = grind (arith, nat_tests)

      -- at the record's line
      abbrev Res : (got line torn : List ℕ) → Type 0
      Res got line torn =
          (groups_from record_of before got line torn ≡ [])
          ⊎ ((got ++ line) ++ torn ≡ next ++ (record_of before next ++ 10 ∷ []))

      at_end : (got line : List ℕ) (t : ℕ) → IsSpoilt next got → IsSpoilt (record_of before next) line → (t == 10) ≡
          true
          → Res got line (t ∷ [])
      at_end got line t spoilt so end = elim (either (is_record line)) [
        | inr not ↦ inl (step_end record_of are before got line [] t end not)
        | inl does ↦ elim (either (same_bytes line (record_of before got))) [
          | inr differs ↦ inl (step_none got line t end does differs)
          | inl same ↦
              let is_record_of = same_are line (record_of before got) same in
              let written =
              as_written (record_of before next) line (subst HasNoZero (sym is_record_of) (no_zero got)) so in
              let got_is = none got spoilt (sym is_record_of ∙ written) in
              inr
              ((λ i. (got_is i ++ written i) ++ ten_is t end i ∷ [])
              ∙ append_assoc next (record_of before next) (10 ∷ []))
        ]
      ]

      scan_rec : (got line q r torn : List ℕ) → IsSpoilt next got → IsSpoilt q line → q ++ r ≡ record_of before next
          → HasNoEnd r → IsTorn (r ++ 10 ∷ []) torn → Res got line torn
      scan_rec got line q r [] spoilt so whole has is = inl refl
      scan_rec got line q [] (t ∷ []) spoilt so whole has is = elim (either (t == 10)) [
        | inl end ↦ at_end got line t spoilt (subst (λ (l : List ℕ). IsSpoilt l line) (sym (append-nil q) ∙ whole) so)
            end
        | inr go ↦ inl (step_byte record_of are before got line [] t go)
      ]
      scan_rec got line q [] (t ∷ u ∷ torn) spoilt so whole has is = absurd is.1
      scan_rec got line q (b ∷ r) (t ∷ torn) spoilt so whole has is =
          elim
          (scan_rec got (line ++ t ∷ []) (q ++ b ∷ []) r torn spoilt
          (spoilt_append q (b ∷ []) line (t ∷ []) so (is.0, tt)) (append_assoc q (b ∷ []) r ∙ whole) has.1 is.1) [
            | inl empty ↦ inl (step_byte record_of are before got line torn t (ends_not t b is.0 has.0) ∙ empty)
            | inr all ↦ inr (sym (append_assoc (got ++ line) (t ∷ []) torn) ∙ ap (λ (l : List ℕ). l ++ torn)
                (append_assoc got line (t ∷ [])) ∙ all)
          ]

      scan_group : (got line p g line_o torn : List ℕ) → IsSpoilt p (got ++ line) → p ++ g ≡ next → AreWhole line_o g
          → is_record line ≡ false → (line ≡ [] → line_o ≡ []) → IsTorn (g ++ (record_of before next ++ 10 ∷ [])) torn
          → Res got line torn
      scan_group got [] p [] line_o torn so whole group not begun is =
          scan_rec got [] [] (record_of before next) torn
          (subst (λ (l : List ℕ). IsSpoilt l got) (sym (append-nil p) ∙ whole) (subst (IsSpoilt p) (append-nil got) so))
          tt refl (are before next).1 is
      scan_group got (x ∷ line) p [] line_o torn so whole group not begun is =
          inl (no_match got x line (record_of before next) torn not (are before next).1 is)
      scan_group got line p (b ∷ g) line_o [] so whole group not begun is = inl refl
      scan_group got line p (b ∷ g) line_o (t ∷ torn) so whole group not begun is = elim (either (t == 10)) [
        | inl end ↦ elim (scan_group (got ++ (line ++ 10 ∷ [])) [] (p ++ b ∷ []) g [] torn
            (subst (IsSpoilt (p ++ b ∷ []))
            (append_assoc got line (10 ∷ []) ∙ sym (append-nil (got ++ (line ++ 10 ∷ []))))
            (spoilt_append p (b ∷ []) (got ++ line) (10 ∷ []) so (ten_or t end is.0)))
            (append_assoc p (b ∷ []) g ∙ whole) (after_end t end is.0 group) refl (λ e. refl) is.1) [
              | inl empty ↦ inl (step_end record_of are before got line torn t end not ∙ empty)
              | inr all ↦ inr (ap (λ (x : ℕ). (got ++ line) ++ x ∷ torn) (ten_is t end) ∙ sym (append_assoc (got ++
                  line) (10 ∷ []) torn) ∙ ap (λ (l : List ℕ). l ++ torn) (append_assoc got line (10 ∷ []) ∙ sym
                  (append-nil (got ++ (line ++ 10 ∷ [])))) ∙ all)
            ]
        | inr go ↦ elim (goes t go is.0 group) [
          | inl fresh ↦ elim (scan_group got (line ++ t ∷ []) (p ++ b ∷ []) g [] torn
              (subst (IsSpoilt (p ++ b ∷ [])) (append_assoc got line (t ∷ []))
              (spoilt_append p (b ∷ []) (got ++ line) (t ∷ []) so (is.0, tt)))
              (append_assoc p (b ∷ []) g ∙ whole) fresh (still line b t line_o g not begun is.0 go group) (λ e. absurd
              (not_empty line t e)) is.1) [
                | inl empty ↦ inl (step_byte record_of are before got line torn t go ∙ empty)
                | inr all ↦ inr (sym (append_assoc (got ++ line) (t ∷ []) torn) ∙ ap (λ (l : List ℕ). l ++ torn)
                    (append_assoc got line (t ∷ [])) ∙ all)
              ]
          | inr same ↦ elim (scan_group got (line ++ t ∷ []) (p ++ b ∷ []) g (line_o ++ b ∷ []) torn
              (subst (IsSpoilt (p ++ b ∷ [])) (append_assoc got line (t ∷ []))
              (spoilt_append p (b ∷ []) (got ++ line) (t ∷ []) so (is.0, tt)))
              (append_assoc p (b ∷ []) g ∙ whole) same (still line b t line_o g not begun is.0 go group) (λ e. absurd
              (not_empty line t e)) is.1) [
                | inl empty ↦ inl (step_byte record_of are before got line torn t go ∙ empty)
                | inr all ↦ inr (sym (append_assoc (got ++ line) (t ∷ []) torn) ∙ ap (λ (l : List ℕ). l ++ torn)
                    (append_assoc got line (t ∷ [])) ∙ all)
              ]
        ]
      ]
        where
          ten_or : (t : ℕ) → (t == 10) ≡ true → (t ≡ b) ⊎ (t ≡ 0) → IsSpoilt (b ∷ []) (10 ∷ [])
          ten_or t end (inl same) = (inl (sym (ten_is t end) ∙ same), tt)
          ten_or t end (inr zero) = (inr (sym (ten_is t end) ∙ zero), tt)

          after_end : (t : ℕ) → (t == 10) ≡ true → (t ≡ b) ⊎ (t ≡ 0) → AreWhole line_o (b ∷ g) → AreWhole [] g
          after_end t end w (inl e) = e.2
          after_end t end (inl same) (inr e) = absurd (false≢true (sym e.0 ∙ ap (λ (x : ℕ). x == 10) (sym same) ∙ end))
          after_end t end (inr zero) (inr e) = absurd (false≢true (ap (λ (x : ℕ). x == 10) (sym zero) ∙ end))

          goes : (t : ℕ) → (t == 10) ≡ false → (t ≡ b) ⊎ (t ≡ 0) → AreWhole line_o (b ∷ g)
              → AreWhole [] g ⊎ AreWhole (line_o ++ b ∷ []) g
          goes t go w (inl e) = inl e.2
          goes t go w (inr e) = inr e.1

pub torn_groups_are_not_read : TornGroupsAreNotRead
torn_groups_are_not_read record_of before next torn are no_zero group none is =
    elim (scan_group record_of are before next no_zero none [] [] [] next [] torn tt refl group refl (λ e. refl) is) [
      | inl empty ↦ inr empty
      | inr all ↦ inl all
    ]
