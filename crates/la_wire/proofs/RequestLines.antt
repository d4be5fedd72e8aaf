-- Requests, read with a name and without.
use Rattle.std.proofs.Common.{◌≡◌, ℕ, ◌+◌, ◌-◌, ◌<◌, ◌==◌, ◌&&◌, nat_lt, Bool, true, false, not, cond, eqb, leb, List}
use Rattle.std.proofs.Common.{[], ◌∷◌, ◌++◌, length, take, drop, slice_index_or, Option, Some, None, refl, sym, ap}
use Rattle.std.proofs.Common.{◌∙◌, arith, inl, inr}
use Rattle.std.specs.List.{list_all, position, prefix_len}
use Rattle.std.specs.Str.{IsUtf8}
use Rattle.std.proofs.lemmas.Bool.{and_parts, cases_lt, cases_Bool, false≢true, eq-eqb, le-leb, le-ltb, lt-ltb}
use Rattle.std.proofs.lemmas.Bool.Decides.{nat_tests}
use Rattle.std.proofs.lemmas.List.{length-append}
use Rattle.std.proofs.lemmas.List.Elements.{All-weaker}
use Rattle.std.proofs.lemmas.List.Folds.{prefix_len-append}
use Rattle.std.proofs.lemmas.List.Sums.{AllPass-from_list_all}
use Rattle.std.proofs.lemmas.Str.{IsUtf8-from_ascii}
use Rattle.std.proofs.lemmas.Str.Ascii.{IsAscii-from_all}
use Rattle.std.proofs.Math.Seq.{drop-append-add, take-append_seam, get_or-append_seam}
use Rattle.la_wire.specs.Requests.{has_no_at, is_name, is_name_byte, is_of_peer, is_named_at, Asked, nameless}
use Rattle.la_wire.specs.Requests.{asked_at, asked_in, unnamed_in, name_in}

-- ## A line apart

at_peer : (line : List ℕ) → is_of_peer line ≡ true → asked_in line ≡ nameless line
unfolding asked_in
at_peer line is = ap (λ b. cond b (nameless line) (asked_at line (position (λ c. c == 64) line))) is

pub of_peer : (line : List ℕ) → is_of_peer line ≡ true → (unnamed_in line ≡ line) × (name_in line ≡ [])
of_peer line is =
    let e = at_peer line is in (ap (λ (a : Asked). a.call) e, ap (λ (a : Asked). a.name) e)

at_place : (line : List ℕ) (o : Option ℕ) → is_of_peer line ≡ false → position (λ b. b == 64) line ≡ o
    → asked_in line ≡ asked_at line o
unfolding asked_in
at_place line o is at =
    ap (λ b. cond b (nameless line) (asked_at line (position (λ c. c == 64) line))) is ∙ ap (asked_at line) at

pub of_none : (line : List ℕ) → is_of_peer line ≡ false → position (λ b. b == 64) line ≡ None
    → (unnamed_in line ≡ line) × (name_in line ≡ [])
of_none line is at =
    let e = at_place line None is at in (ap (λ (a : Asked). a.call) e, ap (λ (a : Asked). a.name) e)

abbrev asked : (call name : List ℕ) → Asked
asked call name = record { call = call; name = name }

abbrev apart : List ℕ → ℕ → Bool → Asked
apart line at b = cond b (asked (take (at - 1) line) (drop (at + 1) line)) (nameless line)

pub of_some : (line : List ℕ) (at : ℕ) (b : Bool) → is_of_peer line ≡ false → position (λ c. c == 64) line ≡ Some at
    → is_named_at line at ≡ b
    → (unnamed_in line ≡ cond b (take (at - 1) line) line) × (name_in line ≡ cond b (drop (at + 1) line) [])
of_some line at true is place named =
    let e : asked_in line ≡ apart line at true = at_place line (Some at) is place ∙ ap (apart line at) named in
    (ap (λ (a : Asked). a.call) e, ap (λ (a : Asked). a.name) e)
of_some line at false is place named =
    let e : asked_in line ≡ apart line at false = at_place line (Some at) is place ∙ ap (apart line at) named in
    (ap (λ (a : Asked). a.call) e, ap (λ (a : Asked). a.name) e)

-- ## A name is a text

small : (b : ℕ) → is_name_byte b ≡ true → b < 128
small b is = elim (cases_lt b 128) [
  | inl less ↦ less
  | inr more ↦ absurd (false≢true (sym (grind (arith, nat_tests, more)) ∙ is))
]

pub name_is_text : (bytes : List ℕ) → is_name bytes ≡ true → IsUtf8 bytes
name_is_text bytes is =
    let parts = and_parts (leb 1 (length bytes) && leb (length bytes) 32) (list_all is_name_byte bytes) is in
    IsUtf8-from_ascii bytes
    (IsAscii-from_all bytes
    (All-weaker (λ b. is_name_byte b ≡ true) (λ b. b < 128) small bytes
    (AllPass-from_list_all is_name_byte bytes parts.1)))

-- ## A line is read apart as it was put together

all_pass : (line : List ℕ) → has_no_at line ≡ true → prefix_len (λ b. not (b == 64)) line ≡ length line
all_pass [] none = refl
all_pass (b ∷ line) none =
    let parts = and_parts (not (b == 64)) (list_all (λ c. not (c == 64)) line) none in
    let rest = all_pass line parts.1 in
    let step : 1 + length line ≡ length (b ∷ line) = omega arith in
    ap (λ t. cond t (1 + prefix_len (λ c. not (c == 64)) line) 0) parts.0 ∙ ap (λ n. 1 + n) rest ∙ step

module _ (line : List ℕ) (none : has_no_at line ≡ true) where
  none_found : position (λ b. b == 64) line ≡ None
  none_found =
      ap (λ n. cond (nat_lt n (length line)) (Some n) None) (all_pass line none)
      ∙ ap (λ t. cond t (Some (length line)) None) (le-ltb (length line) (length line) (omega arith))

  pub nameless_apart : asked_in line ≡ nameless line
  nameless_apart = elim (cases_Bool (is_of_peer line)) [
    | inl is ↦ at_peer line is
    | inr not ↦ at_place line None not none_found
  ]

  module _ (name : List ℕ) (is : is_name name ≡ true) where
    front : prefix_len (λ b. not (b == 64)) (line ++ 32 ∷ 64 ∷ name) ≡ length line + 1
    front =
        prefix_len-append (λ b. not (b == 64)) line (32 ∷ 64 ∷ name)
        ∙ ap (λ n. cond (eqb n (length line)) (length line + 1) n) (all_pass line none)
        ∙ ap (λ t. cond t (length line + 1) (length line)) (eq-eqb (length line) (length line) refl)

    first : position (λ b. b == 64) (line ++ 32 ∷ 64 ∷ name) ≡ Some (length line + 1)
    first =
        let long : length line + 1 < length (line ++ 32 ∷ 64 ∷ name) =
        omega (arith, length-append line (32 ∷ 64 ∷ name)) in
        ap (λ n. cond (nat_lt n (length (line ++ 32 ∷ 64 ∷ name))) (Some n) None) front
        ∙ ap (λ t. cond t (Some (length line + 1)) None)
        (lt-ltb (length line + 1) (length (line ++ 32 ∷ 64 ∷ name)) long)

    before : length line + 1 - 1 ≡ length line
    before = omega arith

    behind : drop (length line + 1 + 1) (line ++ 32 ∷ 64 ∷ name) ≡ name
    behind =
        let two : length line + 1 + 1 ≡ length line + 2 = omega arith in
        ap (λ n. drop n (line ++ 32 ∷ 64 ∷ name)) two ∙ drop-append-add line (32 ∷ 64 ∷ name) 2

    space : slice_index_or (line ++ 32 ∷ 64 ∷ name) (length line + 1 - 1) 0 ≡ 32
    space =
        ap (λ n. slice_index_or (line ++ 32 ∷ 64 ∷ name) n 0) before ∙ get_or-append_seam line 32 (64 ∷ name) 0

    stands : is_named_at (line ++ 32 ∷ 64 ∷ name) (length line + 1) ≡ true
    stands =
        rw (le-leb 1 (length line + 1) (omega arith), space, ap is_name behind, is) refl

    pub named_apart : is_of_peer (line ++ 32 ∷ 64 ∷ name) ≡ false
        → asked_in (line ++ 32 ∷ 64 ∷ name) ≡ record { call = line; name = name }
    named_apart not =
        at_place (line ++ 32 ∷ 64 ∷ name) (Some (length line + 1)) not first
        ∙ ap (apart (line ++ 32 ∷ 64 ∷ name) (length line + 1)) stands
        ∙ ap (λ (call : List ℕ). asked call (drop (length line + 1 + 1) (line ++ 32 ∷ 64 ∷ name)))
        (ap (λ n. take n (line ++ 32 ∷ 64 ∷ name)) before ∙ take-append_seam line (32 ∷ 64 ∷ name))
        ∙ ap (asked line) behind
