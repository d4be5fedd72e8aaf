-- Lines that are put behind a file at once.
use Rattle.std.proofs.Common.{◌≡◌, ◌≢◌, inl, inr, ℕ, Bool, true, false, List, [], ◌∷◌, ◌++◌, refl, sym, ◌∙◌, ap, subst, arith, append_assoc}
use Rattle.std.specs.Prelude.{⊤, not, ◌&&◌, ◌==◌}
use Rattle.std.proofs.lemmas.List.{append-nil}
use Rattle.std.proofs.lemmas.Bool.{false≢true}
use Rattle.std.proofs.lemmas.Bool.Decides.{nat_tests}
use Rattle.la_journal.specs.Lines.{file_of, IsClean}
use Rattle.la_journal.specs.Commits.{is_record, HasNoEnd, AreWhole}
use Rattle.la_journal.specs.Records.{ended, ended_from}
use Rattle.la_journal.specs.Staging.{are_no_records}
use Rattle.la_journal.proofs.TornRecords.{either}
use Rattle.la_journal.proofs.RecordBytes.{no_ends-append}
use Rattle.la_journal.proofs.Extents.{whole_line, whole_append}
use Rattle.la_journal.proofs.Ended.{ended_end, ended_byte, one_ended}

pub file_of_then : (before : List (List ℕ)) (line rest : List ℕ)
    → file_of before ++ (line ++ 10 ∷ rest) ≡ file_of (before ++ line ∷ []) ++ rest
file_of_then [] line rest = sym (append_assoc line (10 ∷ []) rest)
file_of_then (l ∷ before) line rest =
    append_assoc l (10 ∷ file_of before) (line ++ 10 ∷ rest)
    ∙ ap (λ (f : List ℕ). l ++ 10 ∷ f) (file_of_then before line rest)
    ∙ sym (append_assoc l (10 ∷ file_of (before ++ line ∷ [])) rest)

-- ## Whole lines

pub no_end_in : (line : List ℕ) → IsClean line → HasNoEnd line
no_end_in [] clean = tt
no_end_in (b ∷ line) clean = (differs b clean.1, no_end_in line clean.2)
  where
    differs : (b : ℕ) → b ≢ 10 → (b == 10) ≡ false
    differs b not10 = grind (arith, nat_tests)

-- lines that may stand in a group
abbrev pub AreLines : List (List ℕ) → Type 0
AreLines [] = ⊤
AreLines (line ∷ rest) = HasNoEnd line × (is_record line ≡ false) × AreLines rest

pub ended_of : (ls : List (List ℕ)) → AreLines ls → ended (file_of ls) ≡ ls
ended_of [] are = refl
ended_of (l ∷ ls) are =
    one_ended [] l (file_of ls) are.0 ∙ ap (λ (rest : List (List ℕ)). l ∷ rest) (ended_of ls are.2)

pub whole_of : (ls : List (List ℕ)) → AreLines ls → AreWhole [] (file_of ls)
whole_of [] are = refl
whole_of (l ∷ ls) are =
    subst (AreWhole []) (append_assoc l (10 ∷ []) (file_of ls))
    (whole_append [] (l ++ 10 ∷ []) (file_of ls) (whole_line [] l are.0 are.1) (whole_of ls are.2))

-- of bytes
no_ends_in : (got bytes : List ℕ) → HasNoEnd got → are_no_records (ended_from got bytes) ≡ true
    → AreLines (ended_from got bytes)
no_ends_in got [] has plain = tt
no_ends_in got (b ∷ bytes) has plain = elim (either (b == 10)) [
  | inl end ↦
      let both = parts (is_record got) (are_no_records (ended_from [] bytes))
      (sym (ap are_no_records (ended_end got bytes b end)) ∙ plain) in
      subst AreLines (sym (ended_end got bytes b end)) (has, both.0, no_ends_in [] bytes tt both.1)
  | inr go ↦
      subst AreLines (sym (ended_byte got bytes b go))
      (no_ends_in (got ++ b ∷ []) bytes (no_ends-append got (b ∷ []) has (go, tt))
      (sym (ap are_no_records (ended_byte got bytes b go)) ∙ plain))
]
  where
    parts : (a b : Bool) → (not a && b) ≡ true → (a ≡ false) × (b ≡ true)
    parts false b is = (refl, is)
    parts true b is = absurd (false≢true is)

pub lines_in_text : (text : List ℕ) → are_no_records (ended text) ≡ true → AreLines (ended text)
lines_in_text text plain = no_ends_in [] text tt plain

pub file_of_push : (before : List (List ℕ)) (line : List ℕ)
    → file_of before ++ (line ++ 10 ∷ []) ≡ file_of (before ++ line ∷ [])
file_of_push before line = file_of_then before line [] ∙ append-nil (file_of (before ++ line ∷ []))
