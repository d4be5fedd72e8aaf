-- A number that an option was given, from the text that stands for it.
use Rattle.std.proofs.Common.{◌≡◌, ◌∙◌, ℕ, List, Option, Some, None, Result, Ok, sym, subst, true≢false, ap, refl, unwrap_or, ◌≤◌, ◌<◌, ◌^◌}
use Rattle.std.specs.Option.{IsSome}
use Rattle.std.specs.Str.Parse.{ParsesUnsigned}
use Rattle.clap.specs.declared.parser.matches.Found.{Found}
use Rattle.clap.specs.Lexer.{without_minus}
use Rattle.clap.specs.Matches.{ReadsOne}
use Rattle.clap.specs.Words.{Text, one_text, rows_of}
use Rattle.clap.proofs.CallerReads.{signed_reads}
use Rattle.clap.proofs.WalkLemmas.{one_text-rows}
use Rattle.la_cli.specs.Calls.{IsGiven, IsNumberTaken}

pub some≢none : {X : Type 0} (x : X) → Some x ≡ None → ⊥
some≢none x e = true≢false (ap (λ o. Rattle.std.specs.Option.is_some o) e)

pub some_is : {X : Type 0} (x y : X) → Some x ≡ Some y → x ≡ y
some_is x y e = ap (λ o. unwrap_or o x) e

-- a number that was read from the text of an option was given by it
pub read_is_given : (k : ℕ) {E : Type 0} (G : List ℕ → Result ℕ E → Type 0) (f : Found) (name : Text) (r : Option ℕ)
    (n : ℕ) → r ≡ Some n → (one_text f name ≡ None → r ≡ None)
    → ((t : List ℕ) → one_text f name ≡ Some t → ReadsOne G t r)
    → ((u : List ℕ) (x : Result ℕ E) → G u x → ParsesUnsigned {E = E} k 10 u x) → IsGiven (rows_of f) name n
read_is_given k {E} G f name r n is none value parses = go (one_text f name) refl
  where
    go : (o : Option Text) → one_text f name ≡ o → IsGiven (rows_of f) name n
    go None e = absurd (some≢none n (sym is ∙ none e))
    go (Some t) e =
        let read : ReadsOne G t (Some n) = subst (λ (o : Option ℕ). ReadsOne {T = ℕ} {E = E} G t o) is (value t e) in
        let parsed : ParsesUnsigned {E = E} k 10 t (Ok n) = parses t (Ok n) read in
        record {
          text = t;
          given = sym (one_text-rows f name) ∙ e;
          numeral = parsed.0.0;
          value = parsed.1;
        }

-- where a text stands for a number, the number is read, and is in its range
number_read : (k : ℕ) {E : Type 0} (G : List ℕ → Result ℕ E → Type 0) (f : Found) (name : Text) (least most : ℕ)
    (r : Option ℕ) → IsNumberTaken (rows_of f) name least most → most < 2 ^ k
    → ((t : List ℕ) → one_text f name ≡ Some t → ReadsOne G t r)
    → ((u : List ℕ) (x : Result ℕ E) → G u x → ParsesUnsigned {E = E} k 10 u x)
    → (n : ℕ) × (r ≡ Some n) × (least ≤ n) × (n ≤ most)
number_read k {E} G f name least most r taken fits value parses =
    signed_reads E G k least most taken.text r (value (without_minus taken.text) (one_text-rows f name ∙ taken.given))
    parses fits taken.passed

pub some_number : (k : ℕ) {E : Type 0} (G : List ℕ → Result ℕ E → Type 0) (f : Found) (name : Text) (least most : ℕ)
    (r : Option ℕ) → IsNumberTaken (rows_of f) name least most → most < 2 ^ k
    → ((t : List ℕ) → one_text f name ≡ Some t → ReadsOne G t r)
    → ((u : List ℕ) (x : Result ℕ E) → G u x → ParsesUnsigned {E = E} k 10 u x) → IsSome r
some_number k {E} G f name least most r taken fits value parses =
    let read = number_read k {E = E} G f name least most r taken fits value parses in
    subst (λ (o : Option ℕ). IsSome o) (sym read.1) refl

pub taken_is_given : (k : ℕ) {E : Type 0} (G : List ℕ → Result ℕ E → Type 0) (f : Found) (name : Text) (least most : ℕ)
    (r : Option ℕ) (n : ℕ) → IsNumberTaken (rows_of f) name least most → most < 2 ^ k → r ≡ Some n
    → (one_text f name ≡ None → r ≡ None) → ((t : List ℕ) → one_text f name ≡ Some t → ReadsOne G t r)
    → ((u : List ℕ) (x : Result ℕ E) → G u x → ParsesUnsigned {E = E} k 10 u x)
    → IsGiven (rows_of f) name n × (least ≤ n) × (n ≤ most)
taken_is_given k {E} G f name least most r n taken fits is none value parses =
    let read = number_read k {E = E} G f name least most r taken fits value parses in
    let same : read.0 ≡ n = some_is _ _ (sym read.1 ∙ is) in (
      read_is_given k {E = E} G f name r n is none value parses,
      subst (λ m. least ≤ m) same read.2,
      subst
          (λ m. m ≤ most) same read.3,
    )
