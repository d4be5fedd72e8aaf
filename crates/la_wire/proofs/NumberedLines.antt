-- Submissions under numbers, read apart.
use Rattle.std.proofs.Common.{◌≡◌, ℕ, ◌<◌, ◌==◌, Bool, true, false, cond, eqb, List, [], ◌∷◌, ◌++◌}
use Rattle.std.proofs.Common.{length, All, Option, Some, None, option_map, Result, Ok, Err, refl, sym}
use Rattle.std.proofs.Common.{ap, subst}
use Rattle.std.proofs.Common.{◌∙◌, arith, inl, inr}
use Rattle.std.specs.Char.{is_ascii_digit}
use Rattle.std.specs.Fmt.{decimal}
use Rattle.std.specs.List.{list_all, slice_split, position_or_len, before_first}
use Rattle.std.specs.Option.{option_and_then}
use Rattle.std.specs.Str.{bytes_eq}
use Rattle.std.proofs.lemmas.Bool.{cases_lt, cases_Bool, eqb-true, false≢true}
use Rattle.std.proofs.lemmas.Bool.Decides.{nat_tests}
use Rattle.std.proofs.lemmas.List.Elements.{All-weaker, All-cons, All-nil}
use Rattle.std.proofs.lemmas.List.Splits.{slice_split_first}
use Rattle.std.proofs.lemmas.List.Sums.{AllPass-from_list_all, position_or_len_is}
use Rattle.std.proofs.lemmas.Option.{none-some, same_Some}
use Rattle.std.proofs.lemmas.Slice.Eq.{bytes_eq-Decides}
use Rattle.la_set.specs.declared.update.Op.{Op}
use Rattle.la_set.specs.declared.update.Op.TheVariants as op
use Rattle.la_set.specs.declared.update.UpdateId.{UpdateId}
use Rattle.la_script.specs.declared.error.FaultName.TheVariants.{BadNumber}
use Rattle.la_script.specs.declared.forms.Form.{Form}
use Rattle.la_script.specs.declared.forms.Form.TheVariants as form
use Rattle.la_script.specs.declared.forms.Keyword.TheVariants as keyword
use Rattle.la_script.specs.declared.script.Version.TheVariants.{Two}
use Rattle.la_script.specs.declared.values.Values.{Values}
use Rattle.la_script.specs.Forms.{spelling, form_places, fits, form_of}
use Rattle.la_script.specs.Lines.{words_of, or_fault, event_in}
use Rattle.la_script.specs.Numbers.{u8_max, u16_max, is_canonical, number}
use Rattle.la_script.specs.Tags.{tag_of_replica, tag_in, tag_of}
use Rattle.la_script.specs.Text.{id_text}
use Rattle.la_script.specs.Values.{no_values, values, event}
use Rattle.la_wire.specs.Joined.{joined_by}
use Rattle.la_wire.specs.declared.error.LineFault.{LineFault}
use Rattle.la_wire.specs.Readings.{◌>>=◌, number_on}
use Rattle.la_wire.specs.Updates.{op_words, own_on}
use Rattle.la_wire.specs.Calls.{WireCall, Submit}
use Rattle.la_wire.specs.CallLines.{call_line_text, event_call, script_call, script_words, are_own, own_words_call}
use Rattle.la_wire.specs.CallLines.{said_ok, named_call}
use Rattle.la_wire.specs.Writable.{IsId}
use Rattle.la_wire.specs.Joined.{front_word, behind_word}
use Rattle.la_wire.specs.Requests.{NumberedLine, submission_line, numbered_by, numbered_in}
use Rattle.la_wire.specs.Requests.{numbered_submission, IsSubmission}
use Rattle.la_wire.proofs.Decimals.{decimal-no_stop}
use Rattle.la_wire.proofs.FirstWords.{nothing_behind, first_part, form_fits, said_of, said_as_script, said_by_words}
use Rattle.la_wire.proofs.Ids.{id-text, id-plain, id-back}
use Rattle.la_wire.proofs.Joins.{plain-no_space, before-first, after-first}
use Rattle.la_wire.proofs.Typed.{typed-id}

-- ## Words of a line

-- a line that has a space has two words at least
two_words : (line : List ℕ) → position_or_len (λ b. b == 32) line < length line
    → (more : List (List ℕ)) × (words_of line ≡ front_word line ∷ front_word (behind_word line) ∷ more)
two_words line less =
    let rest = first_part (λ b. b == 32) (behind_word line) in (
      rest.0,
      slice_split_first (λ b. b == 32) line 0 less ∙ ap (λ ws. front_word line ∷ ws) rest.1,
    )

-- ## An id is no number

digit_no_stop : (b : ℕ) → is_ascii_digit b ≡ true → eqb b 46 ≡ false
digit_no_stop b d = grind (arith, nat_tests)

no_stop : (w : List ℕ) → is_canonical w ≡ true → All (λ b. eqb b 46 ≡ false) w
no_stop [] is = absurd (false≢true is)
no_stop (d ∷ ds) is = elim (cases_Bool (eqb d 48)) [
  | inl zero ↦ alone ds zero (sym (ap (λ b. cond b (eqb (length ds) 0) (list_all is_ascii_digit (d ∷ ds))) zero) ∙ is)
  | inr other ↦
      All-weaker (λ b. is_ascii_digit b ≡ true) (λ b. eqb b 46 ≡ false) digit_no_stop (d ∷ ds)
      (AllPass-from_list_all is_ascii_digit (d ∷ ds)
      (sym (ap (λ b. cond b (eqb (length ds) 0) (list_all is_ascii_digit (d ∷ ds))) other) ∙ is))
]
  where
    alone : (ds : List ℕ) → eqb d 48 ≡ true → eqb (length ds) 0 ≡ true → All (λ b. eqb b 46 ≡ false) (d ∷ ds)
    alone [] zero none =
        All-cons (λ b. eqb b 46 ≡ false) d [] (grind (arith, nat_tests, zero)) (All-nil (λ b. eqb b 46 ≡ false))
    alone (x ∷ xs) zero none = absurd (omega (arith, eqb-true (length (x ∷ xs)) 0 none))

no_number : (low high : ℕ) (w : List ℕ) → is_canonical w ≡ false → number low high w ≡ None
no_number low high w not = rw not refl

none_then : (o : Option ℕ) → option_and_then (tag_of_replica []) o ≡ None
none_then None = refl
none_then (Some r) = refl

pub canonical_no_id : (w : List ℕ) → is_canonical w ≡ true → tag_of w ≡ None
canonical_no_id w is =
    let all = no_stop w is in
    let past : position_or_len (λ b. b == 46) w ≡ length w =
    position_or_len_is (λ b. b == 46) w (length w) 0 (omega arith) (λ k lt. all k 0 lt)
    (λ lt. absurd (omega (arith, lt))) in
    ap (tag_in (before_first (λ b. b == 46) w)) (nothing_behind (λ b. b == 46) w (omega (arith, past)))
    ∙ none_then (number 0 u8_max (before_first (λ b. b == 46) w))

id_no_number : (w : List ℕ) (id : UpdateId) → tag_of w ≡ Some id → number 0 u8_max w ≡ None
id_no_number w id is = elim (cases_Bool (is_canonical w)) [
  | inl canonical ↦ absurd (none-some id (sym (canonical_no_id w canonical) ∙ is))
  | inr not ↦ no_number 0 u8_max w not
]

-- ## Forms that begin with `submit`

-- what is read of words behind `submit` is a submission
is_submission : (words : List (List ℕ)) (f : Form) → fits (form_places f) (spelling keyword.Submit ∷ words) ≡ true
    → (v : Values) (c : WireCall) → said_ok (event_call (event f v)) ≡ Some c → IsSubmission c
is_submission words form.Inc is v c e =
    subst IsSubmission (same_Some (Submit v.replica v.object (op.Inc v.amount)) c e) tt
is_submission words form.Dec is v c e =
    subst IsSubmission (same_Some (Submit v.replica v.object (op.Dec v.amount)) c e) tt
is_submission words form.Raise is v c e =
    subst IsSubmission (same_Some (Submit v.replica v.object (op.Raise v.value)) c e) tt
is_submission words form.Put is v c e =
    subst IsSubmission (same_Some (Submit v.replica v.object (op.Put v.value)) c e) tt
is_submission words form.Remove is v c e =
    subst IsSubmission (same_Some (Submit v.replica v.object (op.Remove v.tags)) c e) tt
is_submission words form.Mark is v c e = subst IsSubmission (same_Some (Submit v.replica v.object op.Mark) c e) tt
is_submission words form.Deliver is v c e = absurd (false≢true is)
is_submission words form.Decide is v c e = absurd (false≢true is)
is_submission words form.Total is v c e = absurd (false≢true is)
is_submission words form.AtLeast is v c e = absurd (false≢true is)
is_submission words form.Largest is v c e = absurd (false≢true is)
is_submission words form.Has is v c e = absurd (false≢true is)
is_submission words form.Size is v c e = absurd (false≢true is)
is_submission words form.Items is v c e = absurd (false≢true is)

-- a submission of one's own is one
own_is_submission : (r o : Result ℕ LineFault) (does : Result Op LineFault) (c : WireCall)
    → said_ok (r >>= (λ r. o >>= (λ o. does >>= (λ op. Ok (Submit r o op))))) ≡ Some c → IsSubmission c
own_is_submission (Ok r) (Ok o) (Ok op) c e = subst IsSubmission (same_Some (Submit r o op) c e) tt
own_is_submission (Ok r) (Ok o) (Err fault) c e = absurd (none-some c e)
own_is_submission (Ok r) (Err fault) does c e = absurd (none-some c e)
own_is_submission (Err fault) o does c e = absurd (none-some c e)

own_words_submit : (words : List (List ℕ)) (c : WireCall) → are_own words ≡ true
    → said_ok (own_words_call words) ≡ Some c → IsSubmission c
own_words_submit [] c is e = absurd (false≢true is)
own_words_submit (a ∷ []) c is e = absurd (false≢true is)
own_words_submit (a ∷ b ∷ []) c is e = absurd (false≢true is)
own_words_submit (a ∷ b ∷ d ∷ []) c is e = absurd (false≢true is)
own_words_submit (a ∷ b ∷ d ∷ w ∷ []) c is e = absurd (false≢true is)
own_words_submit (a ∷ b ∷ d ∷ w ∷ text ∷ []) c is e =
    own_is_submission (number_on 0 u8_max b) (number_on 0 u16_max d) (own_on text) c e
own_words_submit (a ∷ b ∷ d ∷ w ∷ text ∷ x ∷ more) c is e = absurd (false≢true is)

-- and nothing is read of one where the word behind `submit` is no number
no_own_said : (first word : List ℕ) (more : List (List ℕ)) → number 0 u8_max word ≡ None
    → said_ok (own_words_call (first ∷ word ∷ more)) ≡ None
no_own_said first word [] none = refl
no_own_said first word (a ∷ []) none = refl
no_own_said first word (a ∷ b ∷ []) none = refl
no_own_said first word (a ∷ b ∷ text ∷ []) none = rw none refl
no_own_said first word (a ∷ b ∷ text ∷ d ∷ more) none = refl

module _ (words : List (List ℕ)) (c : WireCall) where
  by_values : (f : Form) → fits (form_places f) (spelling keyword.Submit ∷ words) ≡ true → (o : Option Values)
      → said_ok (script_call (or_fault BadNumber (option_map (event f) o))) ≡ Some c → IsSubmission c
  by_values f is None e = absurd (none-some c e)
  by_values f is (Some v) e = is_submission words f is v c e

  by_form : (o : Option Form) → form_of Two (spelling keyword.Submit ∷ words) ≡ o
      → said_ok (script_call (event_in (spelling keyword.Submit ∷ words) o)) ≡ Some c → IsSubmission c
  by_form None at e = absurd (none-some c e)
  by_form (Some f) at e =
      by_values f (form_fits (spelling keyword.Submit ∷ words) f at)
      (values (form_places f) (spelling keyword.Submit ∷ words) no_values) e

submits_only : (words : List (List ℕ)) (c : WireCall) → said_of (spelling keyword.Submit ∷ words) ≡ Some c
    → IsSubmission c
submits_only words c e =
    let submits : List (List ℕ) = spelling keyword.Submit ∷ words in
    elim (cases_Bool (are_own submits)) [
      | inl is ↦
          own_words_submit submits c is
          (sym (ap (λ b. said_ok (cond b (own_words_call submits) (script_words submits))) is) ∙ e)
      | inr other ↦ by_form words c (form_of Two submits) refl (sym (said_as_script submits other) ∙ e)
    ]

-- and nothing is read where the word behind it is no number
module _ (word : List ℕ) (more : List (List ℕ)) (none : number 0 u8_max word ≡ None) where
  abbrev submits : List (List ℕ)
  submits = spelling keyword.Submit ∷ word ∷ more

  none_said : (f : Form) → fits (form_places f) submits ≡ true → values (form_places f) submits no_values ≡ None
  none_said form.Inc is = rw none refl
  none_said form.Dec is = rw none refl
  none_said form.Raise is = rw none refl
  none_said form.Put is = rw none refl
  none_said form.Remove is = rw none refl
  none_said form.Mark is = rw none refl
  none_said form.Deliver is = absurd (false≢true is)
  none_said form.Decide is = absurd (false≢true is)
  none_said form.Total is = absurd (false≢true is)
  none_said form.AtLeast is = absurd (false≢true is)
  none_said form.Largest is = absurd (false≢true is)
  none_said form.Has is = absurd (false≢true is)
  none_said form.Size is = absurd (false≢true is)
  none_said form.Items is = absurd (false≢true is)

  none_by_form : (o : Option Form) → form_of Two submits ≡ o → said_ok (script_call (event_in submits o)) ≡ None
  none_by_form None at = refl
  none_by_form (Some f) at =
      ap (λ o. said_ok (script_call (or_fault BadNumber (option_map (event f) o))))
      (none_said f (form_fits submits f at))

  none_submitted : said_of submits ≡ None
  none_submitted = elim (cases_Bool (are_own submits)) [
    | inl is ↦
        ap (λ b. said_ok (cond b (own_words_call submits) (script_words submits))) is
        ∙ no_own_said (spelling keyword.Submit) word more none
    | inr other ↦ said_as_script submits other ∙ none_by_form (form_of Two submits) refl
  ]

-- ## A line that begins with `submit`

module _ (line : List ℕ) (front : front_word line ≡ spelling keyword.Submit) where
  by_words : (words : List (List ℕ)) → words_of line ≡ spelling keyword.Submit ∷ words
      → named_call line ≡ said_of (spelling keyword.Submit ∷ words)
  by_words words is = said_by_words line (spelling keyword.Submit) front refl refl refl words is

  -- with an id behind that it says nothing
  id_says_nothing : (id : UpdateId) → tag_of (front_word (behind_word line)) ≡ Some id → named_call line ≡ None
  id_says_nothing id is = elim (cases_lt (position_or_len (λ b. b == 32) line) (length line)) [
    | inl less ↦
        let two = two_words line less in
        let word = front_word (behind_word line) in
        by_words (word ∷ two.0) (two.1 ∙ ap (λ w. w ∷ word ∷ two.0) front)
        ∙ none_submitted word two.0 (id_no_number word id is)
    | inr past ↦
        absurd (none-some id (sym (ap (λ b. tag_of (front_word b)) (nothing_behind (λ b. b == 32) line past)) ∙ is))
  ]

  by_tag : (c : WireCall) (o : Option UpdateId) → named_call line ≡ Some c
      → tag_of (front_word (behind_word line)) ≡ o
      → numbered_by (front_word (behind_word line)) (behind_word (behind_word line)) ≡ None
  by_tag c None says is = rw is refl
  by_tag c (Some id) says is = absurd (none-some c (sym (id_says_nothing id is) ∙ says))

-- a line that says a call has no number
pub plain_apart : (line : List ℕ) (c : WireCall) → named_call line ≡ Some c → numbered_in line ≡ None
unfolding numbered_in
plain_apart line c says =
    let read : Option NumberedLine = numbered_by (front_word (behind_word line)) (behind_word (behind_word line)) in
    elim (cases_Bool (bytes_eq (front_word line) (spelling keyword.Submit))) [
      | inl is ↦
          ap (λ b. cond b read None) is
          ∙ by_tag line ((bytes_eq-Decides (front_word line) (spelling keyword.Submit)).0 is) c
          (tag_of (front_word (behind_word line))) says refl
      | inr not ↦ ap (λ b. cond b read None) not
    ]

-- apart from `submit` on
pub under_submit : (line first behind word rest : List ℕ) → first ≡ front_word line → behind ≡ behind_word line
    → word ≡ front_word behind → rest ≡ behind_word behind → first ≡ spelling keyword.Submit
    → numbered_by word rest ≡ numbered_in line
unfolding numbered_in
under_submit line first behind word rest a b c d is =
    let front : bytes_eq (front_word line) (spelling keyword.Submit) ≡ true =
    (bytes_eq-Decides (front_word line) (spelling keyword.Submit)).1 (sym a ∙ is) in
    ap (λ w. numbered_by w rest) (c ∙ ap front_word b)
    ∙ ap (numbered_by (front_word (behind_word line))) (d ∙ ap behind_word b)
    ∙ sym (ap (λ t. cond t (numbered_by (front_word (behind_word line)) (behind_word (behind_word line))) None) front)

-- ## A line under a number

plain_says : (word rest : List ℕ) (c : WireCall) → named_call (submission_line word rest) ≡ Some c → IsSubmission c
plain_says word rest c says =
    let words : List (List ℕ) = slice_split (λ b. b == 32) (word ++ 32 ∷ rest) in
    submits_only words c (sym (by_words (submission_line word rest) refl words refl) ∙ says)

-- so is what is written of a submission
pub written_submits : (replica object : ℕ) (does : Op) (c : WireCall)
    → named_call (call_line_text (Submit replica object does)) ≡ Some c → IsSubmission c
written_submits replica object does c says =
    plain_says (decimal replica) (joined_by 32 (decimal object ∷ op_words does)) c says

made_plain : (word rest : List ℕ) (o : Option UpdateId) (n : NumberedLine) (c : WireCall)
    → option_map (λ (id : UpdateId). record { number = id.number; plain = submission_line word rest }) o ≡ Some n
    → named_call n.plain ≡ Some c → IsSubmission c
made_plain word rest None n c is says = absurd (none-some n is)
made_plain word rest (Some id) n c is says =
    plain_says word rest c (ap (λ (m : NumberedLine). named_call m.plain) (same_Some _ n is) ∙ says)

where_submits : (b : Bool) (word rest : List ℕ) (n : NumberedLine) (c : WireCall)
    → cond b (numbered_by word rest) None ≡ Some n → named_call n.plain ≡ Some c → IsSubmission c
where_submits true word rest n c is says =
    made_plain (before_first (λ b. b == 46) word) rest (tag_of word) n c is says
where_submits false word rest n c is says = absurd (none-some n is)

-- what it calls for is a submission
pub numbered_submits : (line : List ℕ) (n : NumberedLine) (c : WireCall) → numbered_in line ≡ Some n
    → named_call n.plain ≡ Some c → IsSubmission c
unfolding numbered_in
numbered_submits line n c is says =
    where_submits (bytes_eq (front_word line) (spelling keyword.Submit)) (front_word (behind_word line))
    (behind_word (behind_word line)) n c is says

abbrev numbered : (number : ℕ) → (word rest : List ℕ) → NumberedLine
numbered number word rest = record { number = number; plain = submission_line word rest }

-- by an id and what stands behind it
module _ (id : UpdateId) (is : IsId id) (rest : List ℕ) where
  word_first : front_word (id_text id ++ 32 ∷ rest) ≡ id_text id
  word_first = before-first 32 (id_text id) rest refl (plain-no_space (id_text id) (id-plain id (typed-id id is)))

  rest_behind : behind_word (id_text id ++ 32 ∷ rest) ≡ rest
  rest_behind = after-first 32 (id_text id) rest refl (plain-no_space (id_text id) (id-plain id (typed-id id is)))

  replica_first : before_first (λ b. b == 46) (id_text id) ≡ decimal id.replica
  replica_first =
      ap (before_first (λ b. b == 46)) (id-text id)
      ∙ before-first 46 (decimal id.replica) (decimal id.number) refl
      (decimal-no_stop id.replica (omega (arith, is.replica)))

  made_by : numbered_by (id_text id) rest ≡ Some (numbered id.number (decimal id.replica) rest)
  made_by =
      ap (option_map (λ (i : UpdateId). numbered i.number (before_first (λ b. b == 46) (id_text id)) rest))
      (id-back id is)
      ∙ ap (λ w. Some (numbered id.number w rest)) replica_first

  pub id_apart : numbered_in (submission_line (id_text id) rest) ≡ Some (numbered id.number (decimal id.replica) rest)
  unfolding numbered_in
  id_apart =
      ap (λ w. numbered_by w (behind_word (id_text id ++ 32 ∷ rest))) word_first
      ∙ ap (numbered_by (id_text id)) rest_behind ∙ made_by

-- a call's line under a number
abbrev call_under : (number : ℕ) → WireCall → NumberedLine
call_under number call = record { number = number; plain = call_line_text call }

pub submission_apart : (id : UpdateId) (object : ℕ) (does : Op) → IsId id
    → numbered_in (numbered_submission id object does) ≡ Some (call_under id.number (Submit id.replica object does))
submission_apart id object does is = id_apart id is (joined_by 32 (decimal object ∷ op_words does))
