-- A record hangs on the digest that the line before ends in, and on nothing else of that line.
use Rattle.std.proofs.Common.{◌≡◌, arith, ℕ, ◌-◌, ◌≤◌, Bool, true, false, List, [], ◌∷◌, ◌++◌, refl, sym, ◌∙◌, ap, drop, length, append_assoc}
use Rattle.std.specs.Prelude.{if◌then◌else◌, ◌==◌}
use Rattle.std.specs.List.{list_all}
use Rattle.std.specs.Char.{is_ascii_hexdigit}
use Rattle.std.proofs.lemmas.List.{length-drop}
use Rattle.la_journal.specs.Commits.{same_bytes, is_record, groups_from, groups}
use Rattle.la_journal.specs.Records.{link, end_count, record_of, record_line}

-- the end of a line, where it is digits
abbrev digits_or_none : List ℕ → List ℕ
digits_or_none end = if list_all is_ascii_hexdigit end then end else []

short : (end : List ℕ) → length end ≤ 16 → drop (length end - 16) end ≡ end
short end few =
    let none : length end - 16 ≡ 0 = omega (arith, few) in
    ap (λ (n : ℕ). drop n end) none

again : (end : List ℕ) → length end ≤ 16 → (b : Bool) → list_all is_ascii_hexdigit end ≡ b
    → link (digits_or_none end) ≡ digits_or_none end
again end few true are =
    let kept : digits_or_none end ≡ end = ap (λ (t : Bool). if t then end else []) are in
    ap link kept ∙ ap digits_or_none (short end few)
again end few false are =
    let none : digits_or_none end ≡ [] = ap (λ (t : Bool). if t then end else []) are in
    ap link none ∙ sym none

pub link_again : (line : List ℕ) → link (link line) ≡ link line
link_again line =
    let end = drop (length line - 16) line in
    again end (omega (arith, length-drop (length line - 16) line)) (list_all is_ascii_hexdigit end) refl

pub by_link : (one other group : List ℕ) → link one ≡ link other → record_line one group ≡ record_line other group
by_link one other group same = ap (λ (l : List ℕ). record_of (end_count group) l group) same

pub by_groups : (one other bytes : List ℕ) → link one ≡ link other
    → groups record_line one bytes ≡ groups record_line other bytes
by_groups one other bytes same = from [] [] bytes
  where
    from : (got line bytes : List ℕ) → groups_from record_line one got line bytes ≡ groups_from record_line other got
        line bytes
    from got line [] = refl
    from got line (b ∷ bytes) = (λ i.
        if b == 10
        then (if is_record line
        then (if same_bytes line (by_link one other got same i) then got ∷ groups_from record_line line [] [] bytes
        else [])
        else from (got ++ (line ++ 10 ∷ [])) [] bytes i)
        else from got (line ++ b ∷ []) bytes i)

-- a record that was put behind a group, piece by piece
pub pieces_are : (group count before own : List ℕ)
    → (((((((group ++ 126 ∷ 32 ∷ []) ++ count) ++ 32 ∷ []) ++ before) ++ 32 ∷ []) ++ own) ++ 10 ∷ [])
    ≡ group ++ ((126 ∷ 32 ∷ (count ++ 32 ∷ (before ++ 32 ∷ own))) ++ 10 ∷ [])
pieces_are group count before own =
    append_assoc (((((group ++ 126 ∷ 32 ∷ []) ++ count) ++ 32 ∷ []) ++ before) ++ 32 ∷ []) own (10 ∷ [])
    ∙ append_assoc ((((group ++ 126 ∷ 32 ∷ []) ++ count) ++ 32 ∷ []) ++ before) (32 ∷ []) (own ++ 10 ∷ [])
    ∙ append_assoc (((group ++ 126 ∷ 32 ∷ []) ++ count) ++ 32 ∷ []) before (32 ∷ (own ++ 10 ∷ []))
    ∙ append_assoc ((group ++ 126 ∷ 32 ∷ []) ++ count) (32 ∷ []) (before ++ 32 ∷ (own ++ 10 ∷ []))
    ∙ append_assoc (group ++ 126 ∷ 32 ∷ []) count (32 ∷ (before ++ 32 ∷ (own ++ 10 ∷ [])))
    ∙ append_assoc group (126 ∷ 32 ∷ []) (count ++ 32 ∷ (before ++ 32 ∷ (own ++ 10 ∷ [])))
    ∙ ap (λ (l : List ℕ). group ++ 126 ∷ 32 ∷ l)
    (sym (append_assoc count (32 ∷ (before ++ 32 ∷ own)) (10 ∷ [])
    ∙ ap (λ (l : List ℕ). count ++ 32 ∷ l) (append_assoc before (32 ∷ own) (10 ∷ []))))
