-- The first group of some bytes, at the first line that begins as a record.
use Rattle.std.proofs.Common.{◌≡◌, ◌≢◌, arith, ℕ, ◌+◌, ◌<◌, ◌≤◌, true, false, List, [], ◌∷◌, ◌++◌, Option, Some, None, sym, ◌∙◌, ap, subst, take, drop, length, get_or}
use Rattle.std.specs.Prelude.{◌==◌, IfSome}
use Rattle.std.proofs.lemmas.List.{length-take-le, take_more}
use Rattle.la_journal.specs.Commits.{is_record, groups_from, groups, HasNoEnd}
use Rattle.la_journal.specs.Records.{record_line}
use Rattle.la_journal.specs.declared.grouped.Group.{Group}
use Rattle.la_journal.proofs.RecordBytes.{are_records, no_ends-append}
use Rattle.la_journal.proofs.Extents.{cut, no_record, its_record, other_record, no_line}

pub no_end_more : (bytes : List ℕ) (n : ℕ) → n < length bytes → HasNoEnd (take n bytes)
    → (get_or bytes n 0 == 10) ≡ false → HasNoEnd (take (n + 1) bytes)
no_end_more bytes n within has not =
    subst HasNoEnd (sym (take_more bytes n 0 within))
    (no_ends-append (take n bytes) (get_or bytes n 0 ∷ []) has (not, tt))

module _ (before bytes : List ℕ) (at n : ℕ) (within : at ≤ length bytes) (inside : n < length (drop at bytes))
    (same : groups_from record_line before (take at bytes) [] (drop at bytes) ≡ groups record_line before bytes)
    (split : drop at bytes ≡ take n (drop at bytes) ++ 10 ∷ drop (n + 1) (drop at bytes))
    (line : HasNoEnd (take n (drop at bytes))) where
  pub goes_on : is_record (take n (drop at bytes)) ≡ false
      → groups_from record_line before (take (at + (n + 1)) bytes) [] (drop (at + (n + 1)) bytes)
      ≡ groups record_line before bytes
  goes_on not =
      let rest = drop (n + 1) (drop at bytes) in
      let long = length-take-le n (drop at bytes) (omega arith) in
      let both = cut bytes (take n (drop at bytes)) rest at n within long split in
      (λ i. groups_from record_line before (both.0 i) [] (both.1 i))
      ∙ sym (no_record record_line are_records before (take at bytes) (take n (drop at bytes)) rest line not)
      ∙ ap (groups_from record_line before (take at bytes) []) (sym split)
      ∙ same

  found : is_record (take n (drop at bytes)) ≡ true → take n (drop at bytes) ≡ record_line before (take at bytes)
      → groups record_line before bytes
      ≡ take at bytes ∷ groups record_line (take n (drop at bytes)) (drop (n + 1) (drop at bytes))
  found does is =
      sym same
      ∙ ap (groups_from record_line before (take at bytes) []) split
      ∙ its_record record_line are_records before (take at bytes) (take n (drop at bytes))
      (drop (n + 1) (drop at bytes)) line does is

  pub not_found : is_record (take n (drop at bytes)) ≡ true
      → take n (drop at bytes) ≢ record_line before (take at bytes) → groups record_line before bytes ≡ []
  not_found does not =
      sym same
      ∙ ap (groups_from record_line before (take at bytes) []) split
      ∙ other_record record_line are_records before (take at bytes) (take n (drop at bytes))
      (drop (n + 1) (drop at bytes)) line does not

  pub found_some : is_record (take n (drop at bytes)) ≡ true → (r : Option Group)
      → IfSome r (λ g. g.lines.now ≡ take at bytes) → IfSome r (λ g. g.record.now ≡ take n (drop at bytes))
      → IfSome r (λ g. g.rest.now ≡ drop (n + 1) (drop at bytes))
      → IfSome r (λ _. take n (drop at bytes) ≡ record_line before (take at bytes))
      → IfSome r (λ g. groups record_line before bytes ≡ g.lines.now ∷ groups record_line g.record.now g.rest.now)
  found_some does None lines place rest is = lines
  found_some does (Some g) lines place rest is =
      found does is ∙ (λ i. sym lines i ∷ groups record_line (sym place i) (sym rest i))

pub at_end : (before bytes : List ℕ) (at : ℕ)
    → groups_from record_line before (take at bytes) [] (drop at bytes) ≡ groups record_line before bytes
    → HasNoEnd (drop at bytes) → groups record_line before bytes ≡ []
at_end before bytes at same has = sym same ∙ no_line record_line are_records before (take at bytes) (drop at bytes) has
