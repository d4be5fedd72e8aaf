-- The lines of bytes that have an end.
use Rattle.std.proofs.Common.{◌≡◌, inl, inr, arith, ℕ, ◌+◌, ◌≤◌, Bool, true, false, List, [], ◌∷◌, ◌++◌, refl, sym, ◌∙◌, ap, take, drop, length, append_assoc}
use Rattle.std.specs.Prelude.{if◌then◌else◌, ◌==◌}
use Rattle.std.proofs.lemmas.List.{append-nil, length-append}
use Rattle.std.proofs.lemmas.Bool.Decides.{nat_tests}
use Rattle.la_journal.specs.Lines.{file_of}
use Rattle.la_journal.specs.Commits.{HasNoEnd}
use Rattle.la_journal.specs.Records.{ended_from, ended, unended_from, unended}
use Rattle.la_journal.proofs.TornRecords.{either}
use Rattle.la_journal.proofs.Extents.{cut}

pub ended_end : (got bytes : List ℕ) (b : ℕ) → (b == 10) ≡ true → ended_from got (b ∷ bytes) ≡ got ∷ ended_from [] bytes
ended_end got bytes b is =
    ap (λ (t : Bool). if t then got ∷ ended_from [] bytes else ended_from (got ++ b ∷ []) bytes) is

pub ended_byte : (got bytes : List ℕ) (b : ℕ) → (b == 10) ≡ false
    → ended_from got (b ∷ bytes) ≡ ended_from (got ++ b ∷ []) bytes
ended_byte got bytes b is =
    ap (λ (t : Bool). if t then got ∷ ended_from [] bytes else ended_from (got ++ b ∷ []) bytes) is

pub unended_end : (got bytes : List ℕ) (b : ℕ) → (b == 10) ≡ true → unended_from got (b ∷ bytes) ≡ unended_from [] bytes
unended_end got bytes b is =
    ap (λ (t : Bool). if t then unended_from [] bytes else unended_from (got ++ b ∷ []) bytes) is

pub unended_byte : (got bytes : List ℕ) (b : ℕ) → (b == 10) ≡ false
    → unended_from got (b ∷ bytes) ≡ unended_from (got ++ b ∷ []) bytes
unended_byte got bytes b is =
    ap (λ (t : Bool). if t then unended_from [] bytes else unended_from (got ++ b ∷ []) bytes) is

pub ended-append : (got xs ys : List ℕ)
    → ended_from got (xs ++ ys) ≡ ended_from got xs ++ ended_from (unended_from got xs) ys
ended-append got [] ys = refl
ended-append got (b ∷ xs) ys = elim (either (b == 10)) [
  | inl end ↦ ended_end got (xs ++ ys) b end
      ∙ ap (λ (l : List (List ℕ)). got ∷ l) (ended-append [] xs ys)
      ∙ (λ i. sym (ended_end got xs b end) i ++ ended_from (sym (unended_end got xs b end) i) ys)
  | inr go ↦ ended_byte got (xs ++ ys) b go
      ∙ ended-append (got ++ b ∷ []) xs ys
      ∙ (λ i. sym (ended_byte got xs b go) i ++ ended_from (sym (unended_byte got xs b go) i) ys)
]

pub unended-append : (got xs ys : List ℕ) → unended_from got (xs ++ ys) ≡ unended_from (unended_from got xs) ys
unended-append got [] ys = refl
unended-append got (b ∷ xs) ys = elim (either (b == 10)) [
  | inl end ↦ unended_end got (xs ++ ys) b end
      ∙ unended-append [] xs ys
      ∙ ap (λ (l : List ℕ). unended_from l ys) (sym (unended_end got xs b end))
  | inr go ↦ unended_byte got (xs ++ ys) b go
      ∙ unended-append (got ++ b ∷ []) xs ys
      ∙ ap (λ (l : List ℕ). unended_from l ys) (sym (unended_byte got xs b go))
]

pub one_ended : (got line rest : List ℕ) → HasNoEnd line
    → ended_from got (line ++ 10 ∷ rest) ≡ (got ++ line) ∷ ended_from [] rest
one_ended got [] rest has = ap (λ (l : List ℕ). l ∷ ended_from [] rest) (sym (append-nil got))
one_ended got (b ∷ line) rest has =
    ended_byte got (line ++ 10 ∷ rest) b has.0
    ∙ one_ended (got ++ b ∷ []) line rest has.1
    ∙ ap (λ (l : List ℕ). l ∷ ended_from [] rest) (append_assoc got (b ∷ []) line)

pub none_ended : (got rest : List ℕ) → HasNoEnd rest → ended_from got rest ≡ []
none_ended got [] has = refl
none_ended got (b ∷ rest) has = ended_byte got rest b has.0 ∙ none_ended (got ++ b ∷ []) rest has.1

ten : (b : ℕ) → (b == 10) ≡ true → b ≡ 10
ten b is = grind (arith, nat_tests)

pub bytes_of : (got xs : List ℕ) → file_of (ended_from got xs) ++ unended_from got xs ≡ got ++ xs
bytes_of got [] = sym (append-nil got)
bytes_of got (b ∷ xs) = elim (either (b == 10)) [
  | inl end ↦ (λ i. file_of (ended_end got xs b end i) ++ unended_end got xs b end i)
      ∙ append_assoc got (10 ∷ file_of (ended_from [] xs)) (unended_from [] xs)
      ∙ (λ i. got ++ (sym (ten b end) i ∷ bytes_of [] xs i))
  | inr go ↦ (λ i. file_of (ended_byte got xs b go i) ++ unended_byte got xs b go i)
      ∙ bytes_of (got ++ b ∷ []) xs
      ∙ append_assoc got (b ∷ []) xs
]

-- whole lines are the bytes of their lines
pub whole_lines : (xs : List ℕ) → unended xs ≡ [] → file_of (ended xs) ≡ xs
whole_lines xs is =
    sym (append-nil (file_of (ended xs))) ∙ ap (λ (l : List ℕ). file_of (ended xs) ++ l) (sym is) ∙ bytes_of [] xs

pub length-file : (ls : List (List ℕ)) → length ls ≤ length (file_of ls)
length-file [] = omega arith
length-file (l ∷ ls) = omega (arith, length-file ls, length-append l (10 ∷ file_of ls))

pub few_lines : (xs : List ℕ) → unended xs ≡ [] → length (ended xs) ≤ length xs
few_lines xs is = omega (arith, length-file (ended xs), ap length (whole_lines xs is))

-- bytes with a line's end as the last one are whole
pub whole_at_end : (xs : List ℕ) → unended (xs ++ 10 ∷ []) ≡ []
whole_at_end xs = unended-append [] xs (10 ∷ [])

-- one line more
module _ (bytes line rest : List ℕ) (at : ℕ) (within : at ≤ length bytes) (has : HasNoEnd line)
    (is : drop at bytes ≡ line ++ 10 ∷ rest) where
  both : (take (at + (length line + 1)) bytes ≡ take at bytes ++ (line ++ 10 ∷ []))
      × (drop (at + (length line + 1)) bytes ≡ rest)
  both = cut bytes line rest at (length line) within refl is

  pub next_line : ended (drop at bytes) ≡ line ∷ ended (drop (at + (length line + 1)) bytes)
  next_line = ap ended is ∙ one_ended [] line rest has ∙ ap (λ (l : List ℕ). line ∷ ended l) (sym both.1)

  pub front_line : unended (take at bytes) ≡ []
      → ended (take (at + (length line + 1)) bytes) ≡ ended (take at bytes) ++ line ∷ []
  front_line whole =
      ap ended both.0
      ∙ ended-append [] (take at bytes) (line ++ 10 ∷ [])
      ∙ ap (λ (l : List ℕ). ended (take at bytes) ++ ended_from l (line ++ 10 ∷ [])) whole
      ∙ ap (λ (l : List (List ℕ)). ended (take at bytes) ++ l) (one_ended [] line [] has)

  pub front_whole : unended (take (at + (length line + 1)) bytes) ≡ []
  front_whole =
      ap unended (both.0 ∙ sym (append_assoc (take at bytes) line (10 ∷ []))) ∙ whole_at_end (take at bytes ++ line)

-- bytes of lines are whole
pub whole_unended_of : (xs : List ℕ) → xs ≡ file_of (ended xs) → unended xs ≡ []
whole_unended_of xs is =
    no_more (file_of (ended xs)) (unended xs) (bytes_of [] xs ∙ is)
  where
    no_more : (front end : List ℕ) → front ++ end ≡ front → end ≡ []
    no_more front [] same = refl
    no_more front (b ∷ end) same = absurd (omega (arith, ap length same, length-append front (b ∷ end)))
