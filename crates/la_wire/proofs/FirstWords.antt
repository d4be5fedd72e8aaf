-- A line by its first word, and by the form that its words have.
use Rattle.std.proofs.Common.{◌≡◌, ℕ, ◌+◌, ◌≤◌, ◌&&◌, Bool, true, false, cond, List, [], ◌∷◌, length, take_all}
use Rattle.std.proofs.Common.{drop_of_length-le, Option, Some, None, Ok, refl, sym, ap, ◌∙◌, arith, inl, inr}
use Rattle.std.specs.List.{find, slice_split, position_or_len, before_first, after_first}
use Rattle.std.specs.Str.{bytes_eq}
use Rattle.std.proofs.lemmas.Bool.{and_parts, cases_lt, cases_Bool, false≢true, false_from_ne_true}
use Rattle.std.proofs.lemmas.List.Splits.{slice_split_first, slice_split_none}
use Rattle.std.proofs.lemmas.List.Sums.{fails_before_first}
use Rattle.std.proofs.lemmas.Option.{none-some, same_Some}
use Rattle.std.proofs.lemmas.Slice.Eq.{bytes_eq-Decides}
use Rattle.la_script.specs.declared.forms.Form.{Form}
use Rattle.la_script.specs.declared.script.Version.TheVariants.{Two}
use Rattle.la_script.specs.declared.forms.Keyword.TheVariants as keyword
use Rattle.la_script.specs.Forms.{spelling, form_places, fits, forms, has_form, has_gap, form_of}
use Rattle.la_script.specs.Lines.{words_of, event_in}
use Rattle.la_wire.specs.declared.messages.Kind.{Kind}
use Rattle.la_wire.specs.declared.updates.Verb.TheVariants as verb
use Rattle.la_wire.specs.MessageLines.{kind_word, known_word}
use Rattle.la_wire.specs.Calls.{WireCall, Tick}
use Rattle.la_wire.specs.Updates.{verb_spelling}
use Rattle.la_wire.specs.CallLines.{tick_word, script_call, script_words, are_own, own_words_call, words_call}
use Rattle.la_wire.specs.CallLines.{known_call}
use Rattle.la_wire.specs.CallLines.{first_kind, call_by, call_of, said_ok, named_call}
use Rattle.la_wire.specs.Joined.{front_word}

-- ## Parts

module _ (p : ℕ → Bool) (xs : List ℕ) where
  pub nothing_behind : length xs ≤ position_or_len p xs → after_first p xs ≡ []
  nothing_behind past = drop_of_length-le xs {i = position_or_len p xs + 1} (omega (arith, past))

  -- the first of its parts is what stands before the first byte that parts them
  pub first_part : (more : List (List ℕ)) × (slice_split p xs ≡ before_first p xs ∷ more)
  first_part = elim (cases_lt (position_or_len p xs) (length xs)) [
    | inl less ↦ (slice_split p (after_first p xs), slice_split_first p xs 0 less)
    | inr past ↦ (
      [],
      slice_split_none p xs (λ k d lt. fails_before_first p xs k d (omega (arith, lt, past)))
          ∙ ap (λ (ys : List ℕ). ys ∷ []) (sym (take_all (position_or_len p xs) xs past)),
    )
  ]

-- ## Forms

found : (p : Form → Bool) (fs : List Form) (f : Form) → find p fs ≡ Some f → p f ≡ true
found p [] f e = absurd (none-some f e)
found p (g ∷ fs) f e = elim (cases_Bool (p g)) [
  | inl is ↦
      ap p (same_Some f g (sym e ∙ ap (λ b. cond b (Some g) (find p fs)) is)) ∙ is
  | inr not ↦ found p fs f (sym (ap (λ b. cond b (Some g) (find p fs)) not) ∙ e)
]

no_gap : (b : Bool) (o : Option Form) (f : Form) → cond b None o ≡ Some f → o ≡ Some f
no_gap true o f e = absurd (none-some f e)
no_gap false o f e = e

pub form_fits : (words : List (List ℕ)) (f : Form) → form_of Two words ≡ Some f → fits (form_places f) words ≡ true
form_fits words f e =
    (and_parts (has_form Two f) (fits (form_places f) words)
    (found (λ g. has_form Two g && fits (form_places g) words) forms f
    (no_gap (has_gap words) (find (λ g. has_form Two g && fits (form_places g) words) forms) f e))).1

-- ## Lines

-- what words say
abbrev pub said_of : List (List ℕ) → Option WireCall
said_of words = said_ok (words_call words)

-- words of which the first is not `submit` say nothing of one's own
pub not_own : (first : List ℕ) (more : List (List ℕ)) → bytes_eq first (spelling keyword.Submit) ≡ false
    → are_own (first ∷ more) ≡ false
not_own first [] other = refl
not_own first (a ∷ []) other = refl
not_own first (a ∷ b ∷ []) other = refl
not_own first (a ∷ b ∷ c ∷ []) other = refl
not_own first (a ∷ b ∷ c ∷ d ∷ []) other = ap (λ t. t && bytes_eq c (verb_spelling verb.Own)) other
not_own first (a ∷ b ∷ c ∷ d ∷ e ∷ rest) other = refl

pub said_as_script : (words : List (List ℕ)) → are_own words ≡ false → said_of words ≡ said_ok (script_words words)
said_as_script words other = ap (λ b. said_ok (cond b (own_words_call words) (script_words words))) other

-- the form that words have which say a call, none of one's own
pub form_said : (words : List (List ℕ)) (c : WireCall) → are_own words ≡ false → said_of words ≡ Some c
    → (f : Form) × (fits (form_places f) words ≡ true)
form_said words c other says = by_form (form_of Two words) refl (sym (said_as_script words other) ∙ says)
  where
    by_form : (o : Option Form) → form_of Two words ≡ o → said_ok (script_call (event_in words o)) ≡ Some c
        → (f : Form) × (fits (form_places f) words ≡ true)
    by_form None at is = absurd (none-some c is)
    by_form (Some f) at is = (f, form_fits words f at)

-- a line that begins with none of the words of messages, nor with `tick`, is read as a script's
module _ (line w : List ℕ) (front : front_word line ≡ w) (other : bytes_eq w tick_word ≡ false)
    (none : kind_word w ≡ None) (unknown : bytes_eq w known_word ≡ false) where
  no_tick : bytes_eq line tick_word ≡ false
  no_tick =
      false_from_ne_true (bytes_eq line tick_word)
      (λ is. false≢true (sym other ∙ (bytes_eq-Decides w tick_word).1
      (sym front ∙ ap front_word ((bytes_eq-Decides line tick_word).0 is))))

  said_by_script : named_call line ≡ said_of (words_of line)
  unfolding call_of
  said_by_script =
      ap (λ b. said_ok (cond b (Ok Tick) (call_by (first_kind line) line))) no_tick
      ∙ ap (λ (k : Option Kind). said_ok (call_by k line)) (ap kind_word front ∙ none)
      ∙ ap (λ b. said_ok (cond b (known_call line) (words_call (words_of line))))
      (ap (λ v. bytes_eq v known_word) front ∙ unknown)

  pub said_by_words : (words : List (List ℕ)) → words_of line ≡ w ∷ words → named_call line ≡ said_of (w ∷ words)
  said_by_words words is =
      said_by_script ∙ ap said_of is
