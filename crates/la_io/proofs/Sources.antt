-- What is pending of a source, and what is taken of it.
use Rattle.std.proofs.Common.{◌≡◌, ℕ, ◌<◌, Bool, true, false, ◌==◌, List, [], ◌∷◌, ◌++◌, length, Option, Some, None, sym, subst, ap, ◌∙◌, arith, append_assoc, append-nil}
use Rattle.std.specs.Io.KnownBytes.{Consumes, IsAtEnd, prepend_known}
use Rattle.std.proofs.KnownBytes.{Consumes-trans}
use Rattle.std.proofs.lemmas.List.Elements.{All-append}
use Rattle.std.proofs.lemmas.Bool.{false≢true}
use Rattle.la_io.specs.declared.source.Next.{Next}
use Rattle.la_io.specs.Limits.{is_too_long}
use Rattle.la_io.specs.Sources.{IsOneLine, IsHeld, IsPart, IsNextLine, of_line, last_kind}

-- bytes in front of what is ahead are taken
pub takes_front : (p q : List ℕ) (left : Option (List ℕ)) (bytes : List ℕ) → p ≡ bytes ++ q
    → Consumes (prepend_known p left) (prepend_known q left) bytes
takes_front p q None bytes is = tt
takes_front p q (Some xs) bytes is = ap (λ t. t ++ xs) is ∙ append_assoc bytes q xs

pub one_line_on : (xs ys : List ℕ) → IsOneLine xs → IsOneLine ys → IsOneLine (xs ++ ys)
one_line_on xs ys a b = All-append (λ b. (b == 10) ≡ false) xs ys a b

-- a part of a line so far: it is kept while it is short
pub record Gathers (before after : Option (List ℕ)) (is_long : Bool) (line : List ℕ) : Type 0 where
  pub got : List ℕ
  pub one : IsOneLine got
  pub read : Consumes before after got
  pub kept : IsHeld is_long got line

-- more was read
pub gathers_read : (a b c : Option (List ℕ)) (is_long : Bool) (line : List ℕ) → Gathers a b is_long line
    → Consumes b c [] → Gathers a c is_long line
gathers_read a b c is_long line so more = record {
  got = so.got;
  one = so.one;
  read = subst (Consumes a c) (append-nil so.got) (Consumes-trans a b c so.got [] so.read more);
  kept = so.kept;
}

-- what taking a part of a line does
abbrev pub Takes : (is_long : Bool) → (before after : List ℕ) → (line line_after : List ℕ) → (Bool × Bool) → Type 0
Takes is_long before after line line_after r =
    (got : List ℕ) → IsHeld is_long got line
    → (part : List ℕ) × IsPart before after r.0 part × IsHeld r.1 (got ++ part) line_after

-- a part more, in which the line does not end
pub gathers_part : (a left : Option (List ℕ)) (p q : List ℕ) (is_long long : Bool) (line line_after : List ℕ)
    → Gathers a (prepend_known p left) is_long line → Takes is_long p q line line_after (false, long)
    → Gathers a (prepend_known q left) long line_after
gathers_part a left p q is_long long line line_after so takes =
    let t = takes so.got so.kept in
    record {
      got = so.got ++ t.0;
      one = one_line_on so.got t.0 so.one t.1.one;
      read =
          Consumes-trans a (prepend_known p left) (prepend_known q left) so.got t.0 so.read
          (takes_front p q left t.0 (t.1.taken ∙ ap (λ x. x ++ q) (append-nil t.0)));
      kept = t.2;
    }

-- and one in which it ends
pub line_ends : (a left : Option (List ℕ)) (p q : List ℕ) (is_long long : Bool) (line line_after : List ℕ)
    → Gathers a (prepend_known p left) is_long line → Takes is_long p q line line_after (true, long)
    → IsNextLine a (prepend_known q left) line_after (of_line long)
line_ends a left p q is_long long line line_after so takes =
    let t = takes so.got so.kept in
    let one = one_line_on so.got t.0 so.one t.1.one in
    let front : p ≡ (t.0 ++ 10 ∷ []) ++ q = t.1.taken in
    let read : Consumes a (prepend_known q left) ((so.got ++ t.0) ++ 10 ∷ []) =
    subst (Consumes a (prepend_known q left)) (sym (append_assoc so.got t.0 (10 ∷ [])))
    (Consumes-trans a (prepend_known p left) (prepend_known q left) so.got (t.0 ++ 10 ∷ []) so.read
    (takes_front p q left (t.0 ++ 10 ∷ []) front)) in
    ended long line_after (so.got ++ t.0) t.2 one read
  where
    ended : (long : Bool) (line_after got : List ℕ) → IsHeld long got line_after → IsOneLine got
        → Consumes a (prepend_known q left) (got ++ 10 ∷ []) → IsNextLine a (prepend_known q left) line_after (of_line long)
    ended true line_after got kept one read = (got, one, kept, read)
    ended false line_after got kept one read =
        (subst IsOneLine (sym kept) one, subst (λ l. Consumes a (prepend_known q left) (l ++ 10 ∷ [])) (sym kept) read)

some_in : (got : List ℕ) → is_too_long got ≡ true → 0 < length got
some_in [] long = absurd (false≢true long)
some_in (b ∷ got) long = omega arith

-- the end of the input
pub input_ends : (a b : Option (List ℕ)) (is_long : Bool) (line : List ℕ) → Gathers a b is_long line → IsAtEnd b
    → IsNextLine a b line (last_kind is_long line)
input_ends a b true line so end = (so.got, some_in so.got so.kept, so.one, so.read, end)
input_ends a b false [] so end = (subst (Consumes a b) (sym so.kept) so.read, end)
input_ends a b false (x ∷ line) so end = (so.got, subst (λ g. 0 < length g) so.kept (omega arith), so.one, so.read, end)

-- ## As a loop goes on

module _ (a b c : Option (List ℕ)) (is_long : Bool) (line line1 : List ℕ) (so : Gathers a b is_long line)
    (more : Consumes b c []) (same : line1 ≡ line) where
  so_ready : Gathers a c is_long line1
  so_ready = subst (Gathers a c is_long) (sym same) (gathers_read a b c is_long line so more)

  pub at_end : (kind : Next) → IsAtEnd c → kind ≡ last_kind is_long line1 → IsNextLine a c line1 kind
  at_end kind end made = subst (λ k. IsNextLine a c line1 k) (sym made) (input_ends a c is_long line1 so_ready end)

  module _ (left : Option (List ℕ)) (p q line2 : List ℕ) (c_is : c ≡ prepend_known p left) (taken : Bool × Bool)
      (takes : Takes is_long p q line1 line2 taken) where
    so_here : Gathers a (prepend_known p left) is_long line1
    so_here = subst (λ x. Gathers a x is_long line1) c_is so_ready

    pub at_line : (kind : Next) → taken.0 ≡ true → kind ≡ of_line taken.1 → IsNextLine a (prepend_known q left) line2 kind
    at_line kind ended made =
        subst (λ k. IsNextLine a (prepend_known q left) line2 k) (sym made)
        (line_ends a left p q is_long taken.1 line1 line2 so_here
        (subst (λ e. Takes is_long p q line1 line2 (e, taken.1)) ended takes))

    pub goes_on : taken.0 ≡ false → Gathers a (prepend_known q left) taken.1 line2
    goes_on ended =
        gathers_part a left p q is_long taken.1 line1 line2 so_here
        (subst (λ e. Takes is_long p q line1 line2 (e, taken.1)) ended takes)
