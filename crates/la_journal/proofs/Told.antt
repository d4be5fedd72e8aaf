-- A group with its record is told, and what a crash leaves of one is not.
use Rattle.std.proofs.Common.{◌≡◌, inl, inr, arith, ℕ, suc, ◌-◌, ◌≤◌, Bool, true, false, List, [], ◌∷◌, ◌++◌, Some, None, refl, sym, ◌∙◌, ap, subst, take, drop, length, reverse, append_assoc}
use Rattle.std.specs.Prelude.{if◌then◌else◌, ◌==◌}
use Rattle.std.specs.List.{list_all}
use Rattle.std.specs.Char.{is_ascii_hexdigit}
use Rattle.std.specs.Fmt.{decimal}
use Rattle.std.proofs.lemmas.List.{append-nil, length-append, length-reverse, reverse-append, reverse-reverse, take_at, drop_at}
use Rattle.std.proofs.lemmas.Option.{none-some}
use Rattle.la_journal.specs.Lines.{file_of}
use Rattle.la_journal.specs.Commits.{same_bytes, with_record, AreWhole}
use Rattle.la_journal.specs.Records.{digest, link, end_count, record_of, record_line, head_line, text_of_head, ended_from, ended, unended_from, stated_link, IsRecordOfLast, RecordStands, HeadsAreRead, RecordsLink, GroupsAreTold}
use Rattle.la_journal.proofs.TornRecords.{same_are, either}
use Rattle.la_journal.proofs.Digests.{length-digest, text_is}
use Rattle.la_journal.proofs.RecordBytes.{are_records, link-hex, digest-hex, no_ends, no_ends-append}
use Rattle.la_journal.proofs.Ended.{ended_end, ended_byte, unended_end, unended_byte, ended-append, one_ended, whole_lines}
use Rattle.la_journal.proofs.FileParts.{head_is}

-- what a line ends in
kept : (end : List ℕ) → list_all is_ascii_hexdigit end ≡ true
    → (if list_all is_ascii_hexdigit end then end else []) ≡ end
kept end are = ap (λ (b : Bool). if b then end else []) are

link_is : (front end : List ℕ) → length end ≡ 16 → list_all is_ascii_hexdigit end ≡ true → link (front ++ end) ≡ end
link_is front end long are =
    let place : length front ≡ length (front ++ end) - 16 = omega (arith, length-append front end, long) in
    let last : drop (length (front ++ end) - 16) (front ++ end) ≡ end = drop_at front end _ place in
    ap (λ (l : List ℕ). if list_all is_ascii_hexdigit l then l else []) last ∙ kept end are

in_two : (count : ℕ) (before group : List ℕ)
    → record_of count before group ≡ (126 ∷ 32 ∷ (decimal count ++ 32 ∷ before)) ++ 32 ∷ digest (before ++ group)
in_two count before group =
    ap (λ (l : List ℕ). 126 ∷ 32 ∷ l) (sym (append_assoc (decimal count) (32 ∷ before) (32 ∷ digest (before ++ group))))

pub records_link : RecordsLink
records_link before group =
    let own = digest (link before ++ group) in
    let front = 126 ∷ 32 ∷ (decimal (end_count group) ++ 32 ∷ link before) in
    ap link (in_two (end_count group) (link before) group ∙ sym (append_assoc front (32 ∷ []) own))
    ∙ link_is (front ++ 32 ∷ []) own (length-digest (link before ++ group)) (digest-hex (link before ++ group))

stated_is : (count : ℕ) (before group : List ℕ) → length before ≡ 16 → list_all is_ascii_hexdigit before ≡ true
    → stated_link (record_of count before group) ≡ before
stated_is count before group long are =
    let front = 126 ∷ 32 ∷ (decimal count ++ 32 ∷ before) in
    let own = digest (before ++ group) in
    let line = record_of count before group in
    let place : length front ≡ length line - 17 =
    omega
    (arith, ap length (in_two count before group), length-append front (32 ∷ own), length-digest (before ++ group)) in
    let cut_off : take (length line - 17) line ≡ front =
    ap (take (length line - 17)) (in_two count before group) ∙ take_at front (32 ∷ own) _ place in
    ap link (cut_off ∙ ap (λ (l : List ℕ). 126 ∷ 32 ∷ l) (sym (append_assoc (decimal count) (32 ∷ []) before)))
    ∙ link_is (126 ∷ 32 ∷ (decimal count ++ 32 ∷ [])) before long are

pub heads_are_read : HeadsAreRead
heads_are_read text has =
    let own = digest text in
    let line = head_line text in
    let place : length text ≡ length line - 17 = omega (arith, length-append text (32 ∷ own), length-digest text) in
    let is : text_of_head line ≡ Some text =
    text_is line text (32 ∷ own) own (length text) place (sym (take_at text (32 ∷ own) (length text) refl))
    (sym (drop_at text (32 ∷ own) (length text) refl)) refl refl in
    head_is (line ++ 10 ∷ []) line [] refl (no_ends-append text (32 ∷ own) has (refl, no_ends own (digest-hex text)))
    text is
    ∙ ap (λ (l : List ℕ). Some (record { text = text; these = []; last = l; rest = [] }))
    (ap link (sym (append_assoc text (32 ∷ []) own))
    ∙ link_is (text ++ 32 ∷ []) own (length-digest text) (digest-hex text))

pub head_linked : (line text : List ℕ) → text_of_head line ≡ Some text → length (link line) ≡ 16
head_linked line text is = cases (same_bytes line (head_line front)) refl is
  where
    front : List ℕ
    front = take (length line - 17) line

    is_head : line ≡ head_line front → length (link line) ≡ 16
    is_head same =
        ap (λ (l : List ℕ). length (link l)) (same ∙ sym (append_assoc front (32 ∷ []) (digest front)))
        ∙ ap length (link_is (front ++ 32 ∷ []) (digest front) (length-digest front) (digest-hex front))
        ∙ length-digest front

    cases : (b : Bool) → same_bytes line (head_line front) ≡ b → (if b then Some front else None) ≡ Some text
        → length (link line) ≡ 16
    cases true so gives = is_head (same_are line (head_line front) so)
    cases false so gives = absurd (none-some text gives)

-- ---- a group that is told
pub whole_unended : (line g : List ℕ) → AreWhole line g → unended_from line g ≡ []
whole_unended line [] is = is
whole_unended line (b ∷ g) (inl e) = unended_end line g b e.0 ∙ whole_unended [] g e.2
whole_unended line (b ∷ g) (inr e) = unended_byte line g b e.0 ∙ whole_unended (line ++ b ∷ []) g e.1

pub ends_lines : (got xs : List ℕ) → end_count xs ≡ length (ended_from got xs)
ends_lines got [] = refl
ends_lines got (b ∷ xs) = elim (either (b == 10)) [
  | inl end ↦ ap (λ (t : Bool). if t then suc (end_count xs) else end_count xs) end ∙ ap suc (ends_lines [] xs)
      ∙ ap length (sym (ended_end got xs b end))
  | inr go ↦ ap (λ (t : Bool). if t then suc (end_count xs) else end_count xs) go ∙ ends_lines (got ++ b ∷ []) xs
      ∙ ap length (sym (ended_byte got xs b go))
]

pub reverse_more : (x : List ℕ) (ls acc : List (List ℕ)) → reverse (x ∷ ls) ++ acc ≡ reverse ls ++ x ∷ acc
reverse_more x ls acc =
    ap (λ (l : List (List ℕ)). l ++ acc) (reverse-append (x ∷ []) ls) ∙ append_assoc (reverse ls) (x ∷ []) acc

stands_at : (acc ls : List (List ℕ)) (line : List ℕ) (more : List (List ℕ)) → IsRecordOfLast (reverse ls ++ acc) line
    → RecordStands acc (ls ++ line ∷ more)
stands_at acc [] line more is = inl is
stands_at acc (x ∷ ls) line more is =
    inr (stands_at (x ∷ acc) ls line more
    (subst (λ (l : List (List ℕ)). IsRecordOfLast l line) (reverse_more x ls acc) is))

pub groups_are_told : GroupsAreTold
groups_are_told front before group rest whole_front long whole =
    let r = record_line before group in
    let a = ended front in
    let b = ended group in
    let end : with_record record_line before group ++ rest ≡ group ++ (r ++ 10 ∷ rest) =
    append_assoc group (r ++ 10 ∷ []) rest ∙ ap (λ (l : List ℕ). group ++ l) (append_assoc r (10 ∷ []) rest) in
    let read : ended (front ++ (with_record record_line before group ++ rest)) ≡ (a ++ b) ++ r ∷ ended rest =
    ap (λ (l : List ℕ). ended (front ++ l)) end
    ∙ ended-append [] front (group ++ (r ++ 10 ∷ rest))
    ∙ ap (λ (l : List ℕ). a ++ ended_from l (group ++ (r ++ 10 ∷ rest))) whole_front
    ∙ ap (λ (l : List (List ℕ)). a ++ l)
    (ended-append [] group (r ++ 10 ∷ rest)
    ∙ ap (λ (l : List ℕ). b ++ ended_from l (r ++ 10 ∷ rest)) (whole_unended [] group whole)
    ∙ ap (λ (l : List (List ℕ)). b ++ l) (one_ended [] r rest (are_records before group).1))
    ∙ sym (append_assoc a b (r ∷ ended rest)) in
    let count : length (reverse b) ≡ end_count group = length-reverse b ∙ sym (ends_lines [] group) in
    let lines : reverse (a ++ b) ++ [] ≡ reverse b ++ reverse a = append-nil (reverse (a ++ b)) ∙ reverse-append a b in
    let some : end_count group ≤ length (reverse (a ++ b) ++ []) =
    omega (arith, ap length lines, length-append (reverse b) (reverse a), count) in
    let these : file_of (reverse (take (end_count group) (reverse (a ++ b) ++ []))) ≡ group =
    ap (λ (l : List (List ℕ)). file_of (reverse (take (end_count group) l))) lines
    ∙ ap (λ (l : List (List ℕ)). file_of (reverse l)) (take_at (reverse b) (reverse a) (end_count group) count)
    ∙ ap file_of (reverse-reverse b)
    ∙ whole_lines group (whole_unended [] group whole) in
    let at_front : stated_link r ≡ link before = stated_is (end_count group) (link before) group long (link-hex before)
    in
    subst (RecordStands []) (sym read)
    (stands_at [] (a ++ b) r (ended rest)
    (end_count group, some, (λ i. record_of (end_count group) (sym at_front i) (sym these i))))
