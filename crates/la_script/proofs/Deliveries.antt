-- A line that delivers a message: its words, its form, and what it says.
use Rattle.std.proofs.Common.{◌≡◌, ℕ, suc, ◌-◌, ◌≤◌, Bool, true, false, cond, eqb, List, [], ◌∷◌, ◌++◌, length, take, drop, get_or, Some, None, Option, IfSome, Ok, refl, sym, ap, ◌∙◌, arith, rules, tests}
use Rattle.std.specs.Prelude.{◌&&◌, nat_le}
use Rattle.std.specs.Str.Parse.{digits_value}
use Rattle.std.specs.Char.{is_ascii_digit}
use Rattle.std.specs.List.{list_all}
use Rattle.std.proofs.lemmas.Grind.{common_steps}
use Rattle.std.proofs.lemmas.List.{take_rest}
use Rattle.la_world.specs.declared.event.Event.TheVariants.{Deliver}
use Rattle.la_script.specs.declared.forms.Keyword.TheVariants as keyword
use Rattle.la_script.specs.declared.forms.Form.TheVariants as form
use Rattle.la_script.specs.declared.script.Version.{Version}
use Rattle.la_script.specs.declared.script.Version.TheVariants.{One, Two}
use Rattle.la_script.specs.Numbers.{u64_max, is_canonical, number}
use Rattle.la_script.specs.Forms.{spelling, form_of}
use Rattle.la_script.specs.Lines.{words_of, event_in, line_event}
use Rattle.la_script.proofs.CanonicalNumbers.{canonical_digits}

not_space : (d : ℕ) → is_ascii_digit d ≡ true → eqb d 32 ≡ false
not_space d is = search (rules, tests)

-- digits are one word
one_word : (ds : List ℕ) → list_all is_ascii_digit ds ≡ true → words_of ds ≡ ds ∷ []
one_word [] are = refl
one_word (d ∷ ds) are = grind (arith, common_steps, not_space, one_word ds)

some_word : (n : ℕ) → eqb (suc n) 0 ≡ false
some_word n = search (rules, tests)

delivery_form : (version : Version) (d : ℕ) (ds : List ℕ)
    → form_of version (spelling keyword.Deliver ∷ (d ∷ ds) ∷ []) ≡ Some form.Deliver
delivery_form One d ds = rw (some_word (length ds)) refl
delivery_form Two d ds = rw (some_word (length ds)) refl

-- a number is canonical
canonical : (word : List ℕ) (n : ℕ) → Some n ≡ number 0 u64_max word → is_canonical word ≡ true
canonical word n e =
    by_test (is_canonical word) (nat_le (digits_value 10 word) u64_max) (nat_le 0 (digits_value 10 word))
    (digits_value 10 word) e
  where
    by_test : (b c d : Bool) (value : ℕ) → Some n ≡ cond ((b && c) && d) (Some value) None → b ≡ true
    by_test true c d value h = refl
    by_test false c d value h = absurd cc

-- what the words of a delivery say
said : (version : Version) (word : List ℕ) (n : ℕ) → Some n ≡ number 0 u64_max word
    → event_in (spelling keyword.Deliver ∷ word ∷ []) (form_of version (spelling keyword.Deliver ∷ word ∷ []))
    ≡ Ok (Deliver n)
said version [] n e = absurd cc
said version (d ∷ ds) n e = rw (delivery_form version d ds, sym e) refl

-- the keyword, a space and a number deliver the message with this number
delivers : (version : Version) (word : List ℕ) (n : ℕ) → Some n ≡ number 0 u64_max word
    → line_event version (spelling keyword.Deliver ++ 32 ∷ word) ≡ Ok (Deliver n)
delivers version word n e =
    let words : words_of (spelling keyword.Deliver ++ 32 ∷ word) ≡ spelling keyword.Deliver ∷ word ∷ [] =
    rw (one_word word (canonical_digits word (canonical word n e))) refl in
    ap (λ ws. event_in ws (form_of version ws)) words ∙ said version word n e

behind_space : (rest : List ℕ) → 1 ≤ length rest → get_or rest 0 0 ≡ 32 → rest ≡ 32 ∷ drop 1 rest
behind_space [] some is = absurd (omega arith)
behind_space (b ∷ bs) some is = ap (λ x. x ∷ bs) is

-- where a space and a number stand behind the keyword, it is the number of the message
pub delivered : (line rest : List ℕ) → line ≡ spelling keyword.Deliver ++ rest → 1 ≤ length rest → get_or rest 0 0 ≡ 32
    → (r : Option ℕ) → r ≡ number 0 u64_max (take (length rest - 1) (drop 1 rest))
    → IfSome r (λ n. (version : Version) → line_event version line ≡ Ok (Deliver n))
delivered line rest is some space None read = tt
delivered line rest is some space (Some n) read = λ version.
    ap (line_event version) (is ∙ ap (λ t. spelling keyword.Deliver ++ t) (behind_space rest some space))
    ∙ delivers version (drop 1 rest) n (read ∙ ap (number 0 u64_max) (take_rest rest 1))
