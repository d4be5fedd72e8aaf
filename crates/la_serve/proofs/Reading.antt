-- One line behind others.
use Rattle.std.proofs.Common.{◌≡◌, ℕ, List, [], ◌∷◌, ◌++◌, All, refl, sym, subst, ap, ◌∙◌, append_assoc, Option, Some}
use Rattle.std.proofs.Common.{None}
use Rattle.std.specs.Io.KnownBytes.{Consumes, IsAtEnd, prepend_known}
use Rattle.std.proofs.KnownBytes.{Consumes-trans}
use Rattle.std.proofs.lemmas.List.Elements.{All-nil, All-cons, All-append}
use Rattle.la_journal.specs.Lines.{file_of}
use Rattle.la_io.specs.Sources.{IsOneLine, TakesSome}
use Rattle.la_serve.specs.Reading.{ReadSo, ReadsFront, ReadsAll}

file_push : (lines : List (List ℕ)) (line : List ℕ) → file_of (lines ++ line ∷ []) ≡ file_of lines ++ (line ++ 10 ∷ [])
file_push [] line = refl
file_push (l ∷ lines) line =
    ap (λ f. l ++ 10 ∷ f) (file_push lines line) ∙ sym (append_assoc l (10 ∷ file_of lines) (line ++ 10 ∷ []))

one_more : (lines : List (List ℕ)) (line : List ℕ) → All IsOneLine lines → IsOneLine line
    → All IsOneLine (lines ++ line ∷ [])
one_more lines line each one =
    All-append IsOneLine lines (line ∷ []) each (All-cons IsOneLine line [] one (All-nil IsOneLine))

-- a line more
pub reads_line : (a b c : Option (List ℕ)) (lines : List (List ℕ)) (line : List ℕ) → ReadSo a b lines → IsOneLine line
    → Consumes b c (line ++ 10 ∷ []) → ReadSo a c (lines ++ line ∷ [])
reads_line a b c lines line so one ends = (
  one_more lines line so.0 one,
  subst (Consumes a c) (sym (file_push lines line))
      (Consumes-trans a b c (file_of lines) (line ++ 10 ∷ []) so.1 ends),
)

-- what was read of a source is read of its reader, and what is pending besides
pub through : (a b : Option (List ℕ)) (p bytes : List ℕ) → Consumes a (prepend_known p b) bytes
    → Consumes a b (bytes ++ p)
through None b p bytes c = tt
through (Some xs) None p bytes c = absurd c
through (Some xs) (Some ys) p bytes c = c ∙ sym (append_assoc bytes p ys)

nil_both : (p ys : List ℕ) → p ++ ys ≡ [] → p ≡ []
nil_both [] ys e = refl
nil_both (x ∷ p) ys e = absurd cc

pub all_read : (a b : Option (List ℕ)) (p bytes : List ℕ) → Consumes a (prepend_known p b) bytes
    → IsAtEnd (prepend_known p b) → Consumes a b bytes × IsAtEnd b
all_read None None p bytes c e = (tt, tt)
all_read None (Some ys) p bytes c e = (tt, ap (λ q. q ++ ys) (sym (nil_both p ys e)) ∙ e)
all_read (Some xs) None p bytes c e = absurd c
all_read (Some xs) (Some ys) p bytes c e =
    let none = nil_both p ys e in
    (c ∙ ap (λ q. bytes ++ (q ++ ys)) none, ap (λ q. q ++ ys) (sym none) ∙ e)

-- no line more
pub reads_all : (a b c : Option (List ℕ)) (p : List ℕ) (lines : List (List ℕ)) (rest : List ℕ) → ReadSo a b lines
    → IsOneLine rest → Consumes b (prepend_known p c) rest → IsAtEnd (prepend_known p c) → ReadsAll a c lines rest
reads_all a b c p lines rest so one more end =
    let it =
    all_read a c p (file_of lines ++ rest) (Consumes-trans a b (prepend_known p c) (file_of lines) rest so.1 more) end
    in
    record { each = so.0; no_line = one; consumed = it.0; at_end = it.1 }

-- lines, and perhaps something behind them
pub reads_front : (a b c : Option (List ℕ)) (p : List ℕ) (lines : List (List ℕ)) → ReadSo a b lines
    → TakesSome b (prepend_known p c) → ReadsFront a c lines
reads_front a b c p lines so some =
    record {
      rest = some.0 ++ p;
      each = so.0;
      consumed = subst (Consumes a c) (append_assoc (file_of lines) some.0 p)
          (through a c p (file_of lines ++ some.0)
          (Consumes-trans a b (prepend_known p c) (file_of lines) some.0 so.1 some.1));
    }
