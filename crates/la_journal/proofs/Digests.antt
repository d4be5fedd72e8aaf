-- Digests, and lines that end in one.
use Rattle.std.proofs.Common.{◌≡◌, inl, inr, arith, ℕ, ◌+◌, ◌-◌, ◌*◌, ◌/◌, ◌%◌, ◌<◌, Bool, false, List, [], ◌∷◌, ◌++◌, Option, Some, None, refl, sym, ◌∙◌, ap, take, drop, length, get_or, set, append_assoc, take-append-drop}
use Rattle.std.specs.Prelude.{if◌then◌else◌, MatchOption, IsTrue, ◌↔◌}
use Rattle.std.proofs.lemmas.List.{append_cancel_left, length-take-le, length-set, take_more, take_more_set}
use Rattle.std.specs.Fmt.{decimal, digit_glyph}
use Rattle.sha2.specs.Sha256.{sha256}
use Rattle.sha2.proofs.Facts256.{length-sha256}
use Rattle.la_journal.specs.Commits.{same_bytes}
use Rattle.la_journal.specs.Records.{hex, digest, record_of, head_line, text_of_head}
use Rattle.la_journal.proofs.Recorded.{same_self}
use Rattle.la_journal.proofs.TornRecords.{same_are, either}

hex-append : (xs ys : List ℕ) → hex (xs ++ ys) ≡ hex xs ++ hex ys
hex-append [] ys = refl
hex-append (x ∷ xs) ys = (λ i. digit_glyph false (x / 16 % 16) ∷ digit_glyph false (x % 16) ∷ hex-append xs ys i)

-- two digits more
pub hex-more : (bytes digits : List ℕ) (i a b : ℕ) → i < length bytes → 2 * i + 1 < length digits
    → take (2 * i) digits ≡ hex (take i bytes)
    → a ≡ digit_glyph false (get_or bytes i 0 / 16 % 16) → b ≡ digit_glyph false (get_or bytes i 0 % 16)
    → take (2 * (i + 1)) (set (set digits (2 * i) a) (2 * i + 1) b) ≡ hex (take (i + 1) bytes)
hex-more bytes digits i a b within room so is_a is_b =
    let one = set digits (2 * i) a in
    let next : 2 * (i + 1) ≡ (2 * i + 1) + 1 = omega arith in
    ap (λ (n : ℕ). take n (set one (2 * i + 1) b)) next
    ∙ take_more_set one (2 * i + 1) b (omega (arith, length-set digits (2 * i) a))
    ∙ ap (λ (l : List ℕ). l ++ b ∷ []) (take_more_set digits (2 * i) a (omega arith))
    ∙ append_assoc (take (2 * i) digits) (a ∷ []) (b ∷ [])
    ∙ (λ i_. so i_ ++ is_a i_ ∷ is_b i_ ∷ [])
    ∙ sym (hex-append (take i bytes) (get_or bytes i 0 ∷ []))
    ∙ ap hex (sym (take_more bytes i 0 within))

length-hex : (xs : List ℕ) → length (hex xs) ≡ 2 * length xs
length-hex [] = refl
length-hex (x ∷ xs) = omega (arith, length-hex xs)

pub length-digest : (bytes : List ℕ) → length (digest bytes) ≡ 16
unfolding digest
length-digest bytes =
    length-hex (take 8 (sha256 bytes))
    ∙ ap (λ (n : ℕ). 2 * n) (length-take-le 8 (sha256 bytes) (omega (arith, length-sha256 bytes)))

-- what is behind the same front is the same
pub behind_same : (front bytes rest more : List ℕ) → bytes ≡ front ++ rest → bytes ≡ front ++ more → rest ≡ more
behind_same front bytes rest more is so = append_cancel_left front rest more (sym is ∙ so)

-- a line that begins as a record does has one end
pub one_end : (count before line end more : List ℕ) → line ≡ 126 ∷ 32 ∷ (count ++ 32 ∷ (before ++ end))
    → line ≡ 126 ∷ 32 ∷ (count ++ 32 ∷ (before ++ more)) → end ≡ more
one_end count before line end more is so =
    append_cancel_left before end more
    (behind_same (32 ∷ []) _ (before ++ end) (before ++ more) refl
    (append_cancel_left count (32 ∷ (before ++ end)) (32 ∷ (before ++ more))
    (behind_same (126 ∷ 32 ∷ []) line _ _ is so)))

-- behind its number it has a space
pub has_space : (count before line one two end : List ℕ) → line ≡ 126 ∷ 32 ∷ one → one ≡ count ++ two
    → line ≡ 126 ∷ 32 ∷ (count ++ 32 ∷ (before ++ end)) → two ≡ 32 ∷ (before ++ end)
has_space count before line one two end first next is =
    behind_same count one two (32 ∷ (before ++ end)) next
    (behind_same (126 ∷ 32 ∷ []) line one (count ++ 32 ∷ (before ++ end)) first is)

module _ (line text end own : List ℕ) (n : ℕ) (at : n ≡ length line - 17) (front : text ≡ take n line)
    (back : end ≡ drop n line) (digests : own ≡ digest text) where
  both : line ≡ text ++ end
  both = sym (take-append-drop n line) ∙ (λ i. sym front i ++ sym back i)

  front_is : take (length line - 17) line ≡ text
  front_is = ap (λ (m : ℕ). take m line) (sym at) ∙ sym front

  pub text_is : end ≡ 32 ∷ own → text_of_head line ≡ Some text
  text_is so =
      let whole : line ≡ head_line text =
      both ∙ ap (λ (e : List ℕ). text ++ e) (so ∙ ap (λ (d : List ℕ). 32 ∷ d) digests) in
      ap (λ (t : List ℕ). if same_bytes line (head_line t) then Some t else None) front_is
      ∙ ap (λ (b : Bool). if b then Some text else None) (ap (same_bytes line) (sym whole) ∙ same_self line)

  pub text_is_not : (end ≡ 32 ∷ own → ⊥) → text_of_head line ≡ None
  text_is_not not = elim (either (same_bytes line (head_line text))) [
    | inl same ↦ absurd (not (behind_same text line end (32 ∷ digest text) both (same_are line (head_line text) same)
        ∙ ap (λ (d : List ℕ). 32 ∷ d) (sym digests)))
    | inr differs ↦ ap (λ (t : List ℕ). if same_bytes line (head_line t) then Some t else None) front_is
        ∙ ap (λ (b : Bool). if b then Some text else None) differs
  ]

pub match_option : {T : Type 0} (r : Option T) (A B : Type 0) (P Q : T → Type 0) → (A → B) → ((x : T) → P x → Q x)
    → MatchOption r A P → MatchOption r B Q
match_option None A B P Q f g is = f is
match_option (Some x) A B P Q f g is = g x is

pub record_where : (b : Bool) (count : ℕ) (line before group end own : List ℕ)
    → line ≡ 126 ∷ 32 ∷ (decimal count ++ 32 ∷ (before ++ end)) → own ≡ digest (before ++ group)
    → IsTrue b ↔ (end ≡ 32 ∷ own) → IsTrue b ↔ (line ≡ record_of count before group)
record_where b count line before group end own is digests spaced = (
  λ t.
      is
      ∙ ap (λ (e : List ℕ). 126 ∷ 32 ∷ (decimal count ++ 32 ∷ (before ++ e)))
      (spaced.0 t ∙ ap (λ (d : List ℕ). 32 ∷ d) digests),
  λ e.
      spaced.1
      (one_end (decimal count) before line end (32 ∷ digest (before ++ group)) is e
      ∙ ap (λ (d : List ℕ). 32 ∷ d) (sym digests)),
)
