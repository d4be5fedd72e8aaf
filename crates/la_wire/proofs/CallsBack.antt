-- Calls are read back from their lines.
use Rattle.std.proofs.Common.{◌≡◌, ℕ, ◌≤◌, true, false, eqb, List, [], ◌∷◌, ◌++◌, length, map, All, Option, Some}
use Rattle.std.proofs.Common.{None, Ok}
use Rattle.std.proofs.Common.{cond, refl, sym, ap, ◌∙◌, arith}
use Rattle.std.specs.Fmt.{decimal}
use Rattle.std.specs.Str.{bytes_eq}
use Rattle.std.proofs.lemmas.Bool.{le-leb, ne_eqb}
use Rattle.std.proofs.lemmas.Fmt.{decimal_nonempty}
use Rattle.std.proofs.lemmas.List.{length-append, length-map}
use Rattle.std.proofs.lemmas.List.Elements.{All-nil, All-cons, All-head, All-tail}
use Rattle.std.proofs.lemmas.List.Sums.{AllPass-from_list_all}
use Rattle.la_set.specs.declared.update.UpdateId.{UpdateId}
use Rattle.la_set.specs.declared.update.Op.{Op}
use Rattle.la_set.specs.declared.update.Op.TheVariants as op
use Rattle.la_object.specs.declared.query.Query.{Query}
use Rattle.la_object.specs.declared.query.Query.TheVariants as query
use Rattle.la_world.specs.declared.event.Event.{Event}
use Rattle.la_world.specs.declared.event.Event.TheVariants as event
use Rattle.la_script.specs.declared.values.Values.{Values}
use Rattle.la_script.specs.declared.forms.Form.{Form}
use Rattle.la_script.specs.declared.forms.Form.TheVariants as form
use Rattle.la_script.specs.declared.forms.Keyword.TheVariants as keyword
use Rattle.la_script.specs.declared.script.Version.TheVariants.{Two}
use Rattle.la_script.specs.Numbers.{u8_max, u16_max, u32_max, u64_max, number}
use Rattle.la_script.specs.Tags.{tag_words}
use Rattle.la_script.specs.Text.{id_text}
use Rattle.la_script.specs.Forms.{spelling, form_places, has_gap, form_of}
use Rattle.la_script.specs.Values.{no_values, values, event as event_from}
use Rattle.la_script.specs.Lines.{words_of, event_in}
use Rattle.la_wire.specs.declared.messages.Kind.{Kind}
use Rattle.la_wire.specs.declared.messages.Kind.TheVariants as kind
use Rattle.la_wire.specs.Joined.{spaced}
use Rattle.la_wire.specs.Updates.{update_text, remove_words, op_words, made}
use Rattle.la_wire.specs.Calls.{WireCall, Submit, Decide, Ask, Tick, Receive, Known}
use Rattle.la_wire.specs.CallLines.{query_words, tick_word, call_line_text, event_call, script_call, first_kind}
use Rattle.la_wire.specs.CallLines.{script_words, are_own, own_words_call, words_call, is_known, known_by, known_call}
use Rattle.la_wire.specs.CallLines.{call_by, call_of}
use Rattle.la_wire.specs.MessageLines.{kind_text as kind_word, kind_in, progress_words, base_words, carried}
use Rattle.la_wire.specs.MessageLines.{message_text, line_message, known_word, standing_words, standing_text}
use Rattle.la_node.specs.declared.link.Standing.{Standing}
use Rattle.la_wire.specs.Messages.{WireMessage}
use Rattle.la_wire.specs.Writable.{IsId, IsOp, IsVoteless, IsQuery, IsCall, IsMessage, IsStanding}
use Rattle.la_wire.proofs.Decimals.{number-decimal, decimal-plain, is_plain, IsPlain}
use Rattle.la_wire.proofs.Joins.{words-back}
use Rattle.la_wire.proofs.Ids.{tags-back}
use Rattle.la_wire.proofs.Typed.{typed-op}
use Rattle.la_own.specs.Own.{own_bytes_of}
use Rattle.la_own.proofs.lemmas.OwnTags.{bytes_of-made}
use Rattle.la_wire.proofs.OwnTexts.{own-text-back}
use Rattle.la_wire.proofs.FirstWords.{not_own}
use Rattle.la_wire.proofs.UpdatesBack.{op-plain}
use Rattle.la_wire.proofs.MessagesBack.{message-back, standing-back, standing-plain}

-- ## Forms of a script

some : (n : ℕ) → n ≤ u64_max → eqb (length (decimal n)) 0 ≡ false
some n few = ne_eqb (length (decimal n)) 0 (λ e. omega (arith, decimal_nonempty n (omega arith)))

some-id : (id : UpdateId) → IsId id → eqb (length (id_text id)) 0 ≡ false
some-id id is =
    ne_eqb (length (id_text id)) 0
    (λ e.
    omega (
      arith,
      e,
      decimal_nonempty id.number (omega (arith, is.number)),
      length-append (decimal id.replica ++ 46 ∷ [])
          (decimal id.number),
    ))

some-ids : (ids : List UpdateId) → All IsId ids → has_gap (map id_text ids) ≡ false
some-ids [] all = refl
some-ids (id ∷ ids) all = rw (some-id id (All-head IsId id ids all), some-ids ids (All-tail IsId id ids all)) refl

-- words of a form
event-by : (words : List (List ℕ)) (form : Form) (v : Values) → form_of Two words ≡ Some form
    → values (form_places form) words no_values ≡ Some v → event_in words (form_of Two words) ≡ Ok (event_from form v)
event-by words form v e f = rw (e, f) refl

module _ (r o : ℕ) (small_r : r ≤ u8_max) (small_o : o ≤ u16_max) where
  nr : number 0 u8_max (decimal r) ≡ Some r
  nr = number-decimal 0 u8_max r (omega arith) small_r (omega arith)

  no : number 0 u16_max (decimal o) ≡ Some o
  no = number-decimal 0 u16_max o (omega arith) small_o (omega arith)

  sr : eqb (length (decimal r)) 0 ≡ false
  sr = some r (omega arith)

  so : eqb (length (decimal o)) 0 ≡ false
  so = some o (omega arith)

  abbrev submitted : List (List ℕ) → List (List ℕ)
  submitted words = spelling keyword.Submit ∷ decimal r ∷ decimal o ∷ words

  abbrev asked : List (List ℕ) → List (List ℕ)
  asked words = spelling keyword.Ask ∷ decimal r ∷ decimal o ∷ words

  inc-form : (x : ℕ) → x ≤ u64_max → form_of Two (submitted (op_words (op.Inc x))) ≡ Some form.Inc
  inc-form x few = rw (sr, so, some x few) refl

  dec-form : (x : ℕ) → x ≤ u64_max → form_of Two (submitted (op_words (op.Dec x))) ≡ Some form.Dec
  dec-form x few = rw (sr, so, some x few) refl

  raise-form : (x : ℕ) → x ≤ u64_max → form_of Two (submitted (op_words (op.Raise x))) ≡ Some form.Raise
  raise-form x few = rw (sr, so, some x few) refl

  put-form : (x : ℕ) → x ≤ u64_max → form_of Two (submitted (op_words (op.Put x))) ≡ Some form.Put
  put-form x few = rw (sr, so, some x few) refl

  mark-form : form_of Two (submitted (op_words op.Mark)) ≡ Some form.Mark
  mark-form = rw (sr, so) refl

  remove-form : (ids : List UpdateId) → All IsId ids → length ids ≤ 64
      → form_of Two (submitted (remove_words ids None)) ≡ Some form.Remove
  remove-form [] all few = rw (sr, so) refl
  remove-form (id ∷ ids) all few =
      rw (
        sr,
        so,
        some-id id (All-head IsId id ids all),
        some-ids ids (All-tail IsId id ids all),
        le-leb
            (length (map id_text (id ∷ ids))) 64 (omega (arith, few, length-map (id ∷ ids) id_text)),
      ) refl

  inc-values : (x : ℕ) → x ≤ u32_max
      → values (form_places form.Inc) (submitted (op_words (op.Inc x))) no_values ≡ Some
      (record no_values { replica = r; object = o; amount = x })
  inc-values x few = rw (nr, no, number-decimal 0 u32_max x (omega arith) few (omega arith)) refl

  dec-values : (x : ℕ) → x ≤ u32_max
      → values (form_places form.Dec) (submitted (op_words (op.Dec x))) no_values ≡ Some
      (record no_values { replica = r; object = o; amount = x })
  dec-values x few = rw (nr, no, number-decimal 0 u32_max x (omega arith) few (omega arith)) refl

  raise-values : (x : ℕ) → x ≤ u64_max
      → values (form_places form.Raise) (submitted (op_words (op.Raise x))) no_values ≡ Some
      (record no_values { replica = r; object = o; value = x })
  raise-values x few = rw (nr, no, number-decimal 0 u64_max x (omega arith) few (omega arith)) refl

  put-values : (x : ℕ) → x ≤ u64_max
      → values (form_places form.Put) (submitted (op_words (op.Put x))) no_values ≡ Some
      (record no_values { replica = r; object = o; value = x })
  put-values x few = rw (nr, no, number-decimal 0 u64_max x (omega arith) few (omega arith)) refl

  mark-values : values (form_places form.Mark) (submitted (op_words op.Mark)) no_values ≡ Some
      (record no_values { replica = r; object = o })
  mark-values = rw (nr, no) refl

  remove-values : (ids : List UpdateId) → tag_words (map id_text ids) ≡ Some ids
      → values (form_places form.Remove) (submitted (remove_words ids None)) no_values ≡ Some
      (record no_values { replica = r; object = o; tags = ids })
  remove-values [] back = rw (nr, no) refl
  remove-values (id ∷ ids) back = rw (nr, no, back) refl

  script-said : (words : List (List ℕ)) (does : Op) → are_own (submitted words) ≡ false
      → event_in (submitted words) (form_of Two (submitted words)) ≡ Ok (event.Submit r o does)
      → words_call (submitted words) ≡ Ok (Submit r o does)
  script-said words does script is =
      ap (λ b. cond b (own_words_call (submitted words)) (script_words (submitted words))) script ∙ ap script_call is

  remove-no-own : (ids : List UpdateId) → are_own (submitted (remove_words ids None)) ≡ false
  remove-no-own [] = refl
  remove-no-own (id ∷ []) = refl
  remove-no-own (id ∷ more ∷ ids) = refl

  -- of one's own, or any other
  remove-said : (ids : List UpdateId) (known : Option (List ℕ)) → own_bytes_of (op.Remove ids) ≡ known
      → IsOp (op.Remove ids) → words_call (submitted (remove_words ids known)) ≡ Ok (Submit r o (op.Remove ids))
  remove-said ids None none is =
      script-said (remove_words ids None) (op.Remove ids) (remove-no-own ids)
      (event-by (submitted (remove_words ids None)) form.Remove _ (remove-form ids is.1 is.0.within)
      (remove-values ids (tags-back ids is.0.ascending is.1)))
  remove-said ids (Some bytes) own is =
      let made = bytes_of-made (op.Remove ids) bytes own in
      rw (nr, no, own-text-back bytes made.0) (ap (λ (does : Op). Ok (Submit r o does)) (sym made.1))

  submit-said : (does : Op) → IsOp does → IsVoteless does
      → words_call (submitted (op_words does)) ≡ Ok (Submit r o does)
  submit-said (op.Inc x) is vote =
      script-said (op_words (op.Inc x)) (op.Inc x) refl
      (event-by (submitted (op_words (op.Inc x))) form.Inc _ (inc-form x (omega arith)) (inc-values x is))
  submit-said (op.Dec x) is vote =
      script-said (op_words (op.Dec x)) (op.Dec x) refl
      (event-by (submitted (op_words (op.Dec x))) form.Dec _ (dec-form x (omega arith)) (dec-values x is))
  submit-said (op.Raise x) is vote =
      script-said (op_words (op.Raise x)) (op.Raise x) refl
      (event-by (submitted (op_words (op.Raise x))) form.Raise _ (raise-form x is) (raise-values x is))
  submit-said (op.Put x) is vote =
      script-said (op_words (op.Put x)) (op.Put x) refl
      (event-by (submitted (op_words (op.Put x))) form.Put _ (put-form x is) (put-values x is))
  submit-said (op.Remove ids) is vote = remove-said ids (own_bytes_of (op.Remove ids)) refl is
  submit-said op.Mark is vote =
      script-said (op_words op.Mark) op.Mark refl
      (event-by (submitted (op_words op.Mark)) form.Mark _ mark-form mark-values)
  submit-said (op.Vote x sole) is vote = absurd vote

  total-form : form_of Two (asked (query_words query.Total)) ≡ Some form.Total
  total-form = rw (sr, so) refl

  atleast-form : (x : ℕ) → x ≤ u64_max → form_of Two (asked (query_words (query.AtLeast x))) ≡ Some form.AtLeast
  atleast-form x few = rw (sr, so, some x few) refl

  largest-form : form_of Two (asked (query_words query.Largest)) ≡ Some form.Largest
  largest-form = rw (sr, so) refl

  has-form : (x : ℕ) → x ≤ u64_max → form_of Two (asked (query_words (query.Has x))) ≡ Some form.Has
  has-form x few = rw (sr, so, some x few) refl

  size-form : form_of Two (asked (query_words query.Size)) ≡ Some form.Size
  size-form = rw (sr, so) refl

  items-form : form_of Two (asked (query_words query.Items)) ≡ Some form.Items
  items-form = rw (sr, so) refl

  abbrev asks : Values
  asks = record no_values { replica = r; object = o }

  total-values : values (form_places form.Total) (asked (query_words query.Total)) no_values ≡ Some asks
  total-values = rw (nr, no) refl

  atleast-values : (x : ℕ) → x ≤ u64_max
      → values (form_places form.AtLeast) (asked (query_words (query.AtLeast x))) no_values ≡ Some
      (record no_values { replica = r; object = o; value = x })
  atleast-values x few = rw (nr, no, number-decimal 0 u64_max x (omega arith) few (omega arith)) refl

  largest-values : values (form_places form.Largest) (asked (query_words query.Largest)) no_values ≡ Some asks
  largest-values = rw (nr, no) refl

  has-values : (x : ℕ) → x ≤ u64_max
      → values (form_places form.Has) (asked (query_words (query.Has x))) no_values ≡ Some
      (record no_values { replica = r; object = o; value = x })
  has-values x few = rw (nr, no, number-decimal 0 u64_max x (omega arith) few (omega arith)) refl

  size-values : values (form_places form.Size) (asked (query_words query.Size)) no_values ≡ Some asks
  size-values = rw (nr, no) refl

  items-values : values (form_places form.Items) (asked (query_words query.Items)) no_values ≡ Some asks
  items-values = rw (nr, no) refl

  ask-event : (q : Query) → IsQuery q
      → event_in (asked (query_words q)) (form_of Two (asked (query_words q))) ≡ Ok (event.Ask r o q)
  ask-event query.Total is = event-by (asked (query_words query.Total)) form.Total asks total-form total-values
  ask-event (query.AtLeast x) is =
      event-by (asked (query_words (query.AtLeast x))) form.AtLeast _ (atleast-form x is) (atleast-values x is)
  ask-event query.Largest is =
      event-by (asked (query_words query.Largest)) form.Largest asks largest-form largest-values
  ask-event (query.Has x) is = event-by (asked (query_words (query.Has x))) form.Has _ (has-form x is) (has-values x is)
  ask-event query.Size is = event-by (asked (query_words query.Size)) form.Size asks size-form size-values
  ask-event query.Items is = event-by (asked (query_words query.Items)) form.Items asks items-form items-values

  pub front-plain : (words : List (List ℕ)) → All IsPlain words → All IsPlain (decimal r ∷ decimal o ∷ words)
  front-plain words rest =
      All-cons IsPlain (decimal r) (decimal o ∷ words) (decimal-plain r (omega arith))
      (All-cons IsPlain (decimal o) words (decimal-plain o (omega arith)) rest)

decide-event : (r c v : ℕ) → r ≤ u8_max → c ≤ u8_max → v ≤ u64_max
    → event_in (spelling keyword.Decide ∷ decimal r ∷ decimal c ∷ decimal v ∷ [])
    (form_of Two (spelling keyword.Decide ∷ decimal r ∷ decimal c ∷ decimal v ∷ [])) ≡ Ok (event.Decide r c v)
decide-event r c v lr lc lv =
    event-by (spelling keyword.Decide ∷ decimal r ∷ decimal c ∷ decimal v ∷ []) form.Decide _
    (rw (some r (omega arith), some c (omega arith), some v lv) refl)
    (decide-values r c v lr lc lv)
  where
    decide-values : (r c v : ℕ) → r ≤ u8_max → c ≤ u8_max → v ≤ u64_max
        → values (form_places form.Decide) (spelling keyword.Decide ∷ decimal r ∷ decimal c ∷ decimal v ∷ [])
        no_values ≡ Some (record no_values { replica = r; commit = c; value = v })
    decide-values r c v lr lc lv =
        rw (
          number-decimal 0 u8_max r (omega arith) lr (omega arith),
          number-decimal 0 u8_max c (omega arith) lc
              (omega arith),
          number-decimal 0 u64_max v (omega arith) lv (omega arith),
        ) refl

pub decide-plain : (r c v : ℕ) → IsCall (Decide r c v) → All IsPlain (decimal r ∷ decimal c ∷ decimal v ∷ [])
decide-plain r c v is =
    All-cons IsPlain (decimal r) (decimal c ∷ decimal v ∷ []) (decimal-plain r (omega (arith, is.0)))
    (All-cons IsPlain (decimal c) (decimal v ∷ []) (decimal-plain c (omega (arith, is.1)))
    (All-cons IsPlain (decimal v) [] (decimal-plain v (omega (arith, is.2))) (All-nil IsPlain)))

pub query-plain : (q : Query) → IsQuery q → All IsPlain (query_words q)
query-plain query.Total is =
    All-cons IsPlain (spelling keyword.Total) [] (AllPass-from_list_all is_plain (spelling keyword.Total) refl)
    (All-nil IsPlain)
query-plain (query.AtLeast x) is =
    All-cons IsPlain (spelling keyword.AtLeast) (decimal x ∷ [])
    (AllPass-from_list_all is_plain (spelling keyword.AtLeast) refl)
    (All-cons IsPlain (decimal x) [] (decimal-plain x (omega (arith, is))) (All-nil IsPlain))
query-plain query.Largest is =
    All-cons IsPlain (spelling keyword.Largest) [] (AllPass-from_list_all is_plain (spelling keyword.Largest) refl)
    (All-nil IsPlain)
query-plain (query.Has x) is =
    All-cons IsPlain (spelling keyword.Has) (decimal x ∷ [])
    (AllPass-from_list_all is_plain (spelling keyword.Has) refl)
    (All-cons IsPlain (decimal x) [] (decimal-plain x (omega (arith, is))) (All-nil IsPlain))
query-plain query.Size is =
    All-cons IsPlain (spelling keyword.Size) [] (AllPass-from_list_all is_plain (spelling keyword.Size) refl)
    (All-nil IsPlain)
query-plain query.Items is =
    All-cons IsPlain (spelling keyword.Items) [] (AllPass-from_list_all is_plain (spelling keyword.Items) refl)
    (All-nil IsPlain)

-- ## Calls

-- a line that begins with none of the words of messages, nor is `tick`
worded-line : (line : List ℕ) (words : List (List ℕ)) (call : WireCall) → first_kind line ≡ None → is_known line ≡ false
    → words_of line ≡ words → words_call words ≡ Ok call → call_by (first_kind line) line ≡ Ok call
worded-line line words call none known is says = rw (none, known) (ap words_call is ∙ says)

-- and whose first word is not `submit`
script-line : (line first : List ℕ) (more : List (List ℕ)) (e : Event) (call : WireCall) → first_kind line ≡ None
    → is_known line ≡ false → words_of line ≡ first ∷ more → bytes_eq first (spelling keyword.Submit) ≡ false
    → event_in (first ∷ more) (form_of Two (first ∷ more)) ≡ Ok e → event_call e ≡ Ok call
    → call_by (first_kind line) line ≡ Ok call
script-line line first more e call none known is other back event =
    worded-line line (first ∷ more) call none known is
    (ap (λ b. cond b (own_words_call (first ∷ more)) (script_words (first ∷ more))) (not_own first more other)
    ∙ ap script_call back ∙ event)

submit-back : (r o : ℕ) (does : Op) → IsCall (Submit r o does)
    → call_of (call_line_text (Submit r o does)) ≡ Ok (Submit r o does)
unfolding call_of
submit-back r o does is =
    worded-line (call_line_text (Submit r o does)) (submitted r o is.0 is.1 (op_words does)) (Submit r o does) refl refl
    (words-back (spelling keyword.Submit) (decimal r ∷ decimal o ∷ op_words does)
    (AllPass-from_list_all is_plain (spelling keyword.Submit) refl)
    (front-plain r o is.0 is.1 (op_words does) (op-plain does (typed-op does is.2))))
    (submit-said r o is.0 is.1 does is.2 is.3)

decide-back : (r c v : ℕ) → IsCall (Decide r c v) → call_of (call_line_text (Decide r c v)) ≡ Ok (Decide r c v)
unfolding call_of
decide-back r c v is =
    script-line (call_line_text (Decide r c v)) (spelling keyword.Decide) (decimal r ∷ decimal c ∷ decimal v ∷ [])
    (event.Decide r c v) (Decide r c v) refl refl
    (words-back (spelling keyword.Decide) (decimal r ∷ decimal c ∷ decimal v ∷ [])
    (AllPass-from_list_all is_plain (spelling keyword.Decide) refl) (decide-plain r c v is)) refl
    (decide-event r c v is.0 is.1 is.2) refl

ask-back : (r o : ℕ) (q : Query) → IsCall (Ask r o q) → call_of (call_line_text (Ask r o q)) ≡ Ok (Ask r o q)
unfolding call_of
ask-back r o q is =
    script-line (call_line_text (Ask r o q)) (spelling keyword.Ask) (decimal r ∷ decimal o ∷ query_words q)
    (event.Ask r o q) (Ask r o q) refl refl
    (words-back (spelling keyword.Ask) (decimal r ∷ decimal o ∷ query_words q)
    (AllPass-from_list_all is_plain (spelling keyword.Ask) refl)
    (front-plain r o is.0 is.1 (query_words q) (query-plain q is.2))) refl
    (ask-event r o is.0 is.1 q is.2) refl

kind-first : (k : Kind) (a b : List ℕ) → first_kind ((kind_word k ++ 32 ∷ a) ++ b) ≡ Some k
kind-first kind.Offer a b = refl
kind-first kind.Yes a b = refl
kind-first kind.No a b = refl
kind-first kind.Tell a b = refl

kind-no_tick : (k : Kind) (a b : List ℕ) → bytes_eq ((kind_word k ++ 32 ∷ a) ++ b) tick_word ≡ false
kind-no_tick kind.Offer a b = refl
kind-no_tick kind.Yes a b = refl
kind-no_tick kind.No a b = refl
kind-no_tick kind.Tell a b = refl

receive-line : (line : List ℕ) (k : Kind) → first_kind line ≡ Some k → bytes_eq line tick_word ≡ false
    → call_of line ≡ made Receive (line_message line)
unfolding call_of
receive-line line k first other = rw (other, first) refl

-- a message's line is read as one
pub received : (m : WireMessage) → call_of (message_text m) ≡ made Receive (line_message (message_text m))
received m =
    let a : List ℕ =
    decimal m.replicas
    ++ spaced 32
    (decimal m.from ∷ decimal m.to ∷ decimal m.instance ∷ decimal m.ballot ∷ progress_words m.progress ++ base_words m.body) in
    let b : List ℕ = spaced 59 (map update_text (carried m.body)) in
    receive-line (message_text m) (kind_in m.body) (kind-first (kind_in m.body) a b) (kind-no_tick (kind_in m.body) a b)

pub receive-back : (m : WireMessage) → IsMessage m → call_of (message_text m) ≡ Ok (Receive m)
receive-back m is = received m ∙ ap (made Receive) (message-back m is)

known-line : (line : List ℕ) → first_kind line ≡ None → bytes_eq line tick_word ≡ false → is_known line ≡ true
    → call_of line ≡ known_call line
unfolding call_of
known-line line none other known = rw (other, none, known) refl

known-back : (s : Standing) → IsStanding s → call_of (standing_text s) ≡ Ok (Known s)
known-back s is =
    known-line (standing_text s) refl refl refl
    ∙ ap known_by
    (words-back known_word (standing_words s) (AllPass-from_list_all is_plain known_word refl) (standing-plain s is))
    ∙ ap (made Known) (standing-back s is)

tick-back : call_of tick_word ≡ Ok Tick
unfolding call_of
tick-back = refl

-- a call that can be had is read back from its line
pub call-back : (c : WireCall) → IsCall c → call_of (call_line_text c) ≡ Ok c
call-back (Submit r o does) is = submit-back r o does is
call-back (Decide r c v) is = decide-back r c v is
call-back (Ask r o q) is = ask-back r o q is
call-back Tick is = tick-back
call-back (Receive m) is = receive-back m is
call-back (Known s) is = known-back s is
