-- A line that says a call is no question and no take, and waits for nothing.
use Rattle.std.proofs.Common.{◌≡◌, ℕ, ◌&&◌, Bool, true, false, cond, List, [], ◌∷◌, Option, Some, None, option_map}
use Rattle.std.proofs.Common.{eqb, refl, sym, ap, ◌∙◌, inl, inr}
use Rattle.std.specs.Str.{bytes_eq}
use Rattle.std.proofs.Math.Bool.{and-false}
use Rattle.std.proofs.lemmas.Bool.{and_parts, cases_Bool, false≢true}
use Rattle.std.proofs.lemmas.Option.{none-some}
use Rattle.std.proofs.lemmas.Slice.Eq.{bytes_eq-Decides}
use Rattle.la_set.specs.declared.update.UpdateId.{UpdateId}
use Rattle.la_script.specs.declared.forms.Form.{Form}
use Rattle.la_script.specs.declared.forms.Form.TheVariants as form
use Rattle.la_script.specs.declared.forms.Keyword.{Keyword}
use Rattle.la_script.specs.declared.forms.Keyword.TheVariants as keyword
use Rattle.la_script.specs.declared.forms.Place.{Place}
use Rattle.la_script.specs.declared.forms.Place.TheVariants.{Word, Replica, Object, Amount, Value, Tags}
use Rattle.la_script.specs.Forms.{spelling, form_places, fits, has_gap}
use Rattle.la_script.specs.Lines.{words_of, event_in}
use Rattle.la_script.specs.Tags.{tag_of}
use Rattle.la_wire.specs.MessageLines.{kind_word, known_word}
use Rattle.la_wire.specs.Calls.{WireCall}
use Rattle.la_wire.specs.declared.updates.Verb.TheVariants as verb
use Rattle.la_wire.specs.Updates.{verb_spelling}
use Rattle.la_wire.specs.CallLines.{tick_word, script_call, are_own, said_ok, named_call}
use Rattle.la_wire.specs.Joined.{front_word}
use Rattle.la_wire.specs.Questions.{status_word, update_word, tags_word, updates_word, take_word, at_word, status_asked}
use Rattle.la_wire.specs.Questions.{update_asked}
use Rattle.la_wire.specs.declared.questions.Question.{Question}
use Rattle.la_wire.specs.Questions.{question_asked, question_by, question_in, take_by, take_in, AwaitedLine}
use Rattle.la_wire.specs.Questions.{without_at}
use Rattle.la_wire.specs.Questions.{awaited_by, from_last, awaits, awaited_in}
use Rattle.la_wire.proofs.FirstWords.{first_part, said_of, not_own, said_as_script, form_said, said_by_words}

no_form : (b : Bool) (o : Option Form) → o ≡ None → cond b None o ≡ None
no_form true o none = refl
no_form false o none = none

-- no form begins with `status`
no_status : (more : List (List ℕ)) → said_of (status_word ∷ more) ≡ None
no_status more =
    said_as_script (status_word ∷ more) (not_own status_word more refl)
    ∙ ap (λ o. said_ok (script_call (event_in (status_word ∷ more) o)))
    (no_form (has_gap (status_word ∷ more)) None refl)

-- nor with `update`
no_update : (more : List (List ℕ)) → said_of (update_word ∷ more) ≡ None
no_update more =
    said_as_script (update_word ∷ more) (not_own update_word more refl)
    ∙ ap (λ o. said_ok (script_call (event_in (update_word ∷ more) o)))
    (no_form (has_gap (update_word ∷ more)) None refl)

-- a word at the place of a keyword
is_word : (k : Keyword) (w : List ℕ) (b : Bool) → (bytes_eq w (spelling k) && b) ≡ true → w ≡ spelling k
is_word k w b is = (bytes_eq-Decides w (spelling k)).0 (and_parts (bytes_eq w (spelling k)) b is).0

-- ## Words behind the first one, with a keyword behind two numbers

abbrev behind : Keyword → List Place → List Place
behind k tail = Replica ∷ Object ∷ Word k ∷ tail

third_asked : (r o w v : List ℕ) (rest : List (List ℕ)) → w ≡ v → bytes_eq v updates_word ≡ false
    → bytes_eq v tags_word ≡ false → question_asked (r ∷ o ∷ w ∷ rest) ≡ None
third_asked r o w v [] is other else = rw (is, other) refl
third_asked r o w v (x ∷ []) is other else = rw (is, else) refl
third_asked r o w v (x ∷ y ∷ rest) is other else = refl

asked : (k : Keyword) (tail : List Place) (more : List (List ℕ)) → fits (behind k tail) more ≡ true
    → bytes_eq (spelling k) updates_word ≡ false → bytes_eq (spelling k) tags_word ≡ false → question_asked more ≡ None
asked k tail [] fit other else = refl
asked k tail (r ∷ []) fit other else = refl
asked k tail (r ∷ o ∷ []) fit other else = refl
asked k tail (r ∷ o ∷ w ∷ rest) fit other else =
    third_asked r o w (spelling k) rest (is_word k w (fits tail rest) fit) other else

-- a form that begins with `ask`
ask_no_question : (f : Form) (more : List (List ℕ)) → fits (form_places f) (spelling keyword.Ask ∷ more) ≡ true
    → question_asked more ≡ None
ask_no_question form.Total more fit = asked keyword.Total [] more fit refl refl
ask_no_question form.AtLeast more fit = asked keyword.AtLeast (Value ∷ []) more fit refl refl
ask_no_question form.Largest more fit = asked keyword.Largest [] more fit refl refl
ask_no_question form.Has more fit = asked keyword.Has (Value ∷ []) more fit refl refl
ask_no_question form.Size more fit = asked keyword.Size [] more fit refl refl
ask_no_question form.Items more fit = asked keyword.Items [] more fit refl refl
ask_no_question form.Inc more fit = absurd (false≢true fit)
ask_no_question form.Dec more fit = absurd (false≢true fit)
ask_no_question form.Raise more fit = absurd (false≢true fit)
ask_no_question form.Put more fit = absurd (false≢true fit)
ask_no_question form.Remove more fit = absurd (false≢true fit)
ask_no_question form.Mark more fit = absurd (false≢true fit)
ask_no_question form.Deliver more fit = absurd (false≢true fit)
ask_no_question form.Decide more fit = absurd (false≢true fit)

third_taken : (first r o w v : List ℕ) (rest : List (List ℕ)) → w ≡ v → bytes_eq v take_word ≡ false
    → take_by (first ∷ r ∷ o ∷ w ∷ rest) ≡ None
third_taken first r o w v [] is other = refl
third_taken first r o w v (x ∷ []) is other = rw (is, other, and-false (bytes_eq first (spelling keyword.Submit))) refl
third_taken first r o w v (x ∷ y ∷ rest) is other = refl

taken : (k : Keyword) (tail : List Place) (first : List ℕ) (more : List (List ℕ)) → fits (behind k tail) more ≡ true
    → bytes_eq (spelling k) take_word ≡ false → take_by (first ∷ more) ≡ None
taken k tail first [] fit other = refl
taken k tail first (r ∷ []) fit other = refl
taken k tail first (r ∷ o ∷ []) fit other = refl
taken k tail first (r ∷ o ∷ w ∷ rest) fit other =
    third_taken first r o w (spelling k) rest (is_word k w (fits tail rest) fit) other

-- a form that begins with `submit`
submit_no_take : (f : Form) (first : List ℕ) (more : List (List ℕ))
    → fits (form_places f) (spelling keyword.Submit ∷ more) ≡ true → take_by (first ∷ more) ≡ None
submit_no_take form.Inc first more fit = taken keyword.Inc (Amount ∷ []) first more fit refl
submit_no_take form.Dec first more fit = taken keyword.Dec (Amount ∷ []) first more fit refl
submit_no_take form.Raise first more fit = taken keyword.Raise (Value ∷ []) first more fit refl
submit_no_take form.Put first more fit = taken keyword.Put (Value ∷ []) first more fit refl
submit_no_take form.Remove first more fit = taken keyword.Remove (Tags ∷ []) first more fit refl
submit_no_take form.Mark first more fit = taken keyword.Mark [] first more fit refl
submit_no_take form.Deliver first more fit = absurd (false≢true fit)
submit_no_take form.Decide first more fit = absurd (false≢true fit)
submit_no_take form.Total first more fit = absurd (false≢true fit)
submit_no_take form.AtLeast first more fit = absurd (false≢true fit)
submit_no_take form.Largest first more fit = absurd (false≢true fit)
submit_no_take form.Has first more fit = absurd (false≢true fit)
submit_no_take form.Size first more fit = absurd (false≢true fit)
submit_no_take form.Items first more fit = absurd (false≢true fit)

-- one of one's own
own_no_take : (words : List (List ℕ)) → are_own words ≡ true → take_by words ≡ None
own_no_take [] is = refl
own_no_take (a ∷ []) is = refl
own_no_take (a ∷ b ∷ []) is = refl
own_no_take (a ∷ b ∷ c ∷ []) is = refl
own_no_take (a ∷ b ∷ c ∷ w ∷ []) is = refl
own_no_take (a ∷ b ∷ c ∷ w ∷ text ∷ []) is =
    let own : w ≡ verb_spelling verb.Own =
    (bytes_eq-Decides w (verb_spelling verb.Own)).0
    (and_parts (bytes_eq a (spelling keyword.Submit)) (bytes_eq w (verb_spelling verb.Own)) is).1 in
    third_taken a b c w (verb_spelling verb.Own) (text ∷ []) own refl
own_no_take (a ∷ b ∷ c ∷ w ∷ text ∷ x ∷ rest) is = refl

-- a take begins with `submit`
other_no_take : (first : List ℕ) (more : List (List ℕ)) → bytes_eq first (spelling keyword.Submit) ≡ false
    → take_by (first ∷ more) ≡ None
other_no_take first [] not = refl
other_no_take first (a ∷ []) not = refl
other_no_take first (a ∷ b ∷ []) not = refl
other_no_take first (a ∷ b ∷ c ∷ []) not = refl
other_no_take first (a ∷ b ∷ c ∷ d ∷ []) not = rw not refl
other_no_take first (a ∷ b ∷ c ∷ d ∷ e ∷ rest) not = refl

-- ## Words that wait for nothing

-- what a line with these words waits for
abbrev awaited_on : (line : List ℕ) → List (List ℕ) → Option AwaitedLine
awaited_on line words = cond (awaits words) (awaited_by line (from_last 1 words)) None

never : (b : Bool) (o : Option AwaitedLine) → o ≡ None → cond b o None ≡ None
never true o none = none
never false o none = refl

no_id : (line w v : List ℕ) → w ≡ v → tag_of v ≡ None → awaited_by line w ≡ None
no_id line w v is none =
    ap (λ o. option_map (λ (id : UpdateId). record { after = id; plain = without_at line w }) o) (ap tag_of is ∙ none)

-- behind the keyword stands nothing
keyword_last : (line : List ℕ) (k : Keyword) (more : List (List ℕ)) → fits (behind k []) more ≡ true
    → tag_of (spelling k) ≡ None → awaited_on line (spelling keyword.Ask ∷ more) ≡ None
keyword_last line k [] fit none = absurd (false≢true fit)
keyword_last line k (r ∷ []) fit none = absurd (false≢true fit)
keyword_last line k (r ∷ o ∷ []) fit none = absurd (false≢true fit)
keyword_last line k (r ∷ o ∷ w ∷ []) fit none =
    never (bytes_eq o at_word) (awaited_by line w) (no_id line w (spelling k) (is_word k w true fit) none)
keyword_last line k (r ∷ o ∷ w ∷ x ∷ rest) fit none =
    absurd (false≢true (and_parts (bytes_eq w (spelling k)) false fit).1)

-- behind it stands a value
value_last : (line : List ℕ) (k : Keyword) (more : List (List ℕ)) → fits (behind k (Value ∷ [])) more ≡ true
    → bytes_eq (spelling k) at_word ≡ false → awaited_on line (spelling keyword.Ask ∷ more) ≡ None
value_last line k [] fit other = absurd (false≢true fit)
value_last line k (r ∷ []) fit other = absurd (false≢true fit)
value_last line k (r ∷ o ∷ []) fit other = absurd (false≢true fit)
value_last line k (r ∷ o ∷ w ∷ []) fit other = absurd (false≢true (and_parts (bytes_eq w (spelling k)) false fit).1)
value_last line k (r ∷ o ∷ w ∷ x ∷ []) fit other = rw (is_word k w true fit, other) refl
value_last line k (r ∷ o ∷ w ∷ x ∷ y ∷ rest) fit other =
    absurd (false≢true (and_parts (bytes_eq w (spelling k)) false fit).1)

ask_waits_not : (f : Form) (line : List ℕ) (more : List (List ℕ))
    → fits (form_places f) (spelling keyword.Ask ∷ more) ≡ true → awaited_on line (spelling keyword.Ask ∷ more) ≡ None
ask_waits_not form.Total line more fit = keyword_last line keyword.Total more fit refl
ask_waits_not form.AtLeast line more fit = value_last line keyword.AtLeast more fit refl
ask_waits_not form.Largest line more fit = keyword_last line keyword.Largest more fit refl
ask_waits_not form.Has line more fit = value_last line keyword.Has more fit refl
ask_waits_not form.Size line more fit = keyword_last line keyword.Size more fit refl
ask_waits_not form.Items line more fit = keyword_last line keyword.Items more fit refl
ask_waits_not form.Inc line more fit = absurd (false≢true fit)
ask_waits_not form.Dec line more fit = absurd (false≢true fit)
ask_waits_not form.Raise line more fit = absurd (false≢true fit)
ask_waits_not form.Put line more fit = absurd (false≢true fit)
ask_waits_not form.Remove line more fit = absurd (false≢true fit)
ask_waits_not form.Mark line more fit = absurd (false≢true fit)
ask_waits_not form.Deliver line more fit = absurd (false≢true fit)
ask_waits_not form.Decide line more fit = absurd (false≢true fit)

-- ## Lines

module _ (line : List ℕ) (c : WireCall) (says : named_call line ≡ Some c) where
  abbrev first : List ℕ
  first = front_word line

  abbrev more : List (List ℕ)
  more = (first_part (λ b. eqb b 32) line).0

  words : words_of line ≡ first ∷ more
  words = (first_part (λ b. eqb b 32) line).1

  -- it begins with this word, which begins no message
  module _ (w : List ℕ) (is : bytes_eq first w ≡ true) (other : bytes_eq w tick_word ≡ false)
      (none : kind_word w ≡ None) (unknown : bytes_eq w known_word ≡ false) where
    begins : first ≡ w
    begins = (bytes_eq-Decides first w).0 is

    words_say : said_of (w ∷ more) ≡ Some c
    words_say =
        sym (said_by_words line w begins other none unknown more (words ∙ ap (λ v. v ∷ more) begins)) ∙ says

    fit : are_own (w ∷ more) ≡ false → (f : Form) × (fits (form_places f) (w ∷ more) ≡ true)
    fit script = form_said (w ∷ more) c script words_say

  abbrev by_ask_alone : Option Question
  by_ask_alone = cond (bytes_eq first (spelling keyword.Ask)) (question_asked more) None

  by_words : question_by (first ∷ more) ≡ None
  by_words = elim (cases_Bool (bytes_eq first status_word)) [
    | inl is ↦
        absurd (none-some c (sym (no_status more) ∙ words_say status_word is refl refl refl))
    | inr no_status ↦
        ap (λ b. cond b (status_asked more) (cond (bytes_eq first update_word) (update_asked more) by_ask_alone))
        no_status
        ∙ by_update (bytes_eq first update_word) refl
  ]
    where
      by_ask : (b : Bool) → bytes_eq first (spelling keyword.Ask) ≡ b → cond b (question_asked more) None ≡ None
      by_ask true is =
          let f = fit (spelling keyword.Ask) is refl refl refl (not_own (spelling keyword.Ask) more refl) in
          ask_no_question f.0 more f.1
      by_ask false not = refl

      by_update : (b : Bool) → bytes_eq first update_word ≡ b → cond b (update_asked more) by_ask_alone ≡ None
      by_update true is = absurd (none-some c (sym (no_update more) ∙ words_say update_word is refl refl refl))
      by_update false not = by_ask (bytes_eq first (spelling keyword.Ask)) refl

  pub call_no_question : question_in line ≡ None
  unfolding question_in
  call_no_question = ap question_by words ∙ by_words

  submission_no_take : bytes_eq first (spelling keyword.Submit) ≡ true → take_by (first ∷ more) ≡ None
  submission_no_take is = elim (cases_Bool (are_own (spelling keyword.Submit ∷ more))) [
    | inl own ↦
        ap (λ v. take_by (v ∷ more)) (begins (spelling keyword.Submit) is refl refl refl)
        ∙ own_no_take (spelling keyword.Submit ∷ more) own
    | inr script ↦
        let f = fit (spelling keyword.Submit) is refl refl refl script in submit_no_take f.0 first more f.1
  ]

  pub call_no_take : take_in line ≡ None
  unfolding take_in
  call_no_take = ap take_by words ∙ (
      elim (cases_Bool (bytes_eq first (spelling keyword.Submit))) [
        | inl is ↦ submission_no_take is
        | inr not ↦ other_no_take first more not
      ]
      )

  pub call_waits_not : awaited_in line ≡ None
  unfolding awaited_in
  call_waits_not = ap (awaited_on line) words ∙ (
      elim (cases_Bool (bytes_eq first (spelling keyword.Ask))) [
        | inl is ↦
            let f = fit (spelling keyword.Ask) is refl refl refl (not_own (spelling keyword.Ask) more refl) in
            ap (λ v. awaited_on line (v ∷ more)) ((bytes_eq-Decides first (spelling keyword.Ask)).0 is)
            ∙ ask_waits_not f.0 line more f.1
        | inr not ↦
            ap (λ b. cond (b && bytes_eq (from_last 2 (first ∷ more)) at_word)
            (awaited_by line (from_last 1 (first ∷ more))) None) not
      ]
      )
