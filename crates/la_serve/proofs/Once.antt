-- Submissions under numbers count once.
use Rattle.std.proofs.Common.{◌≡◌, ◌⊎◌, inl, inr, ℕ, zero, suc, ◌+◌, ◌==◌, Bool, true, false, not, List, []}
use Rattle.std.proofs.Common.{◌∷◌, ◌++◌, length, leb, get_or, slice_get, codes, Option, Some, None, refl, sym, ap}
use Rattle.std.proofs.Common.{subst, option_map}
use Rattle.std.proofs.Common.{◌∙◌, append_assoc, append-nil, add-one, arith}
use Rattle.std.specs.Fmt.{decimal}
use Rattle.std.proofs.lemmas.Bool.{eqb-true, false≢true}
use Rattle.std.proofs.lemmas.List.{append_cancel_left}
use Rattle.std.proofs.lemmas.Option.{none-some, same_Some}
use Rattle.la_set.specs.ObjectOps.{ObjectOp}
use Rattle.la_set.specs.Histories.{object_op_number}
use Rattle.la_set.specs.declared.tags.TheConstants.{MAX_TAGS}
use Rattle.la_set.specs.declared.update.Op.{Op}
use Rattle.la_set.specs.declared.update.Op.TheVariants as op
use Rattle.la_object.specs.Shelves.{kind_at}
use Rattle.la_object.specs.declared.kind.Kind.{Kind}
use Rattle.la_proposer.specs.ProposerState.{op_on}
use Rattle.la_node.specs.Calls.{Submitted}
use Rattle.la_node.specs.Steps.{Given, node_step}
use Rattle.la_node.proofs.lemmas.Stepping.{some_of}
use Rattle.la_replica.specs.ReplicaState.{ReplicaState}
use Rattle.la_io.specs.Limits.{is_too_long}
use Rattle.la_wire.specs.Calls.{WireCall, Submit, Decide, Ask, Tick, Receive, Known}
use Rattle.la_wire.specs.CallLines.{named_call, call_line_text}
use Rattle.la_wire.specs.declared.questions.Question.{Question}
use Rattle.la_wire.specs.declared.questions.Take.{Take}
use Rattle.la_wire.specs.Notes.{submitted_note, refused_note}
use Rattle.la_wire.specs.Requests.{NumberedLine, numbered_in, unnumbered, IsSubmission}
use Rattle.la_wire.specs.Questions.{question_in, take_in}
use Rattle.la_serve.specs.declared.said.Said.{Said}
use Rattle.la_serve.specs.declared.said.Said.TheVariants as said
use Rattle.la_serve.specs.declared.said.Why.{Why}
use Rattle.la_serve.specs.Heard.{HeardLine, bare, heard_name, heard_call}
use Rattle.la_serve.specs.Numbered.{submissions_by, submission_under, is_next_number}
use Rattle.la_serve.specs.Once.{MayGoOn, AddsUnder, AsksUnder, NumbersCountOnce, StandsOn, NumbersCountOverLives}
use Rattle.la_serve.specs.Lives.{NodeLivesAreOneRun}
use Rattle.la_journal.specs.Machine.{steps, steps_from}
use Rattle.la_durable.specs.CallLines.{CallLine}
use Rattle.la_durable.specs.Nodes.{acts, acts_by, step}
use Rattle.la_serve.specs.Serving.{AreTurns}
use Rattle.la_serve.specs.Said.{why_word, unfit, asks_of, IsSaidUnder, IsSaidUnlessFit}
use Rattle.la_serve.specs.Takes.{taken_tags}
use Rattle.la_serve.specs.Turns.{ServerState, Turn, OneOf, own_of, only_says, is_note, IsCallTaken, IsSaidTurn}
use Rattle.la_serve.specs.Turns.{HasFault, SaysCall, IsCallTurn, IsQuestionTurn, IsTakeTurn, IsRequestTurn}
use Rattle.la_serve.specs.Turns.{IsShortTurn, IsTurn}
use Rattle.la_serve.proofs.Processes.{call_of_line, where_some}
use Rattle.la_serve.proofs.Submissions.{ProposersGoOn, GoesOnWith, step_goes}
use Rattle.la_serve.proofs.TurnKinds.{IsHeardSo, one_of, what}

-- ## What stands under a number

get_more : (xs ys : List ObjectOp) (k : ℕ) (d : ObjectOp) → slice_get xs k ≡ Some d → slice_get (xs ++ ys) k ≡ Some d
get_more [] ys k d e = absurd (none-some d e)
get_more (x ∷ xs) ys zero d e = e
get_more (x ∷ xs) ys (suc k) d e = get_more xs ys k d e

under_more : (xs ys : List ObjectOp) (number : ℕ) (d : ObjectOp) → object_op_number xs number ≡ Some d
    → object_op_number (xs ++ ys) number ≡ Some d
under_more xs ys zero d e = absurd (none-some d e)
under_more xs ys (suc k) d e = get_more xs ys k d e

get_last : (xs : List ObjectOp) (d : ObjectOp) → slice_get (xs ++ d ∷ []) (length xs) ≡ Some d
get_last [] d = refl
get_last (x ∷ xs) d = get_last xs d

under_last : (xs : List ObjectOp) (number : ℕ) (d : ObjectOp) → number ≡ length xs + 1
    → object_op_number (xs ++ d ∷ []) number ≡ Some d
under_last xs number d is =
    ap (object_op_number (xs ++ d ∷ [])) (is ∙ add-one (length xs)) ∙ get_last xs d

adds_under : (number : ℕ) (d : ObjectOp) (before after : ReplicaState) → AddsUnder number d before after
    → submission_under after number ≡ Some d
adds_under number d before after adds =
    ap (λ ds. object_op_number ds number) adds.1 ∙ under_last (submissions_by before) number d adds.0

-- ## Notes

notes_differ : (front x y more : List ℕ) → ((front ++ x) ++ 10 ∷ []) ++ more ≡ (front ++ y) ++ 10 ∷ []
    → (x ++ 10 ∷ []) ++ more ≡ y ++ 10 ∷ []
notes_differ front x y more e =
    append_cancel_left front ((x ++ 10 ∷ []) ++ more) (y ++ 10 ∷ [])
    (sym (ap (λ l. l ++ more) (append_assoc front x (10 ∷ [])) ∙ append_assoc front (x ++ 10 ∷ []) more)
    ∙ e ∙ append_assoc front y (10 ∷ []))

not_refused : (own number k : ℕ) (name why name2 more : List ℕ)
    → submitted_note own number name ++ more ≡ refused_note own k why name2 → ⊥
not_refused own number k name why name2 more e =
    let behind = notes_differ (codes "# r" ++ decimal own) _ _ more e in
    let second = ap (λ l. get_or l 1 0) behind in omega (arith, second)

not_silent : (own number : ℕ) (name more : List ℕ) → [] ≡ submitted_note own number name ++ more → ⊥
not_silent own number name more e = let none = ap (λ l. get_or l 0 0) e in omega (arith, none)

-- ## A turn

one_is : {A B : Type 0} (b : Bool) → OneOf b A B → ((b ≡ true) × A) ⊎ ((b ≡ false) × B)
one_is true a = inl (refl, a)
one_is false b = inr (refl, b)

same_own : (b : Bool) → not b ≡ false → b ≡ true
same_own true e = refl
same_own false e = absurd (false≢true (sym e))

-- nothing is written of a line, or why it was refused
abbrev IsUnanswered : ServerState → Turn → Type 0
IsUnanswered n t =
    (t.text ≡ []) ⊎ ((k : ℕ) × (why : List ℕ) × (name : List ℕ) × (t.text ≡ refused_note (own_of n) k why name))

-- under the number it stands, before or as it is added
abbrev StandsOrAdds : (number : ℕ) → ObjectOp → (before after : ReplicaState) → Type 0
StandsOrAdds number d before after =
    ((after ≡ before) × (submission_under before number ≡ Some d)) ⊎ AddsUnder number d before after

-- what comes of a line under a number
abbrev Comes : ServerState → (number : ℕ) → Turn → Type 0
Comes n number t =
    ((t.after.kept ≡ n.kept) × IsUnanswered n t)
    ⊎ ((d : ObjectOp) × AsksUnder n.kept.own t.heard number d × StandsOrAdds number d n.kept t.after.kept)

-- what is called for under a number is a submission, and so is what is written of one
pub record SaySubmissions : Type 0 where
  pub numbered : (line : List ℕ) (n : NumberedLine) (c : WireCall) → numbered_in line ≡ Some n →
      named_call n.plain ≡ Some c → IsSubmission c
  pub written : (replica object : ℕ) (does : Op) (c : WireCall) →
      named_call (call_line_text (Submit replica object does)) ≡ Some c → IsSubmission c

numbered_submission : SaySubmissions → (line : List ℕ) (number : ℕ) (c : WireCall)
    → (heard_call line).number ≡ Some number → named_call (heard_call line).call ≡ Some c → IsSubmission c
numbered_submission say line number c asks says =
    let s = some_of (λ (n : NumberedLine). n.number) (numbered_in (bare line)) number asks in
    say.numbered (bare line) s.0 c s.1
    (sym (ap (λ (o : Option NumberedLine). named_call (unnumbered (bare line) o)) s.1) ∙ says)

asks_submission : SaySubmissions → (h : HeardLine) → IsHeardSo h → (number : ℕ) (c : WireCall) → h.number ≡ Some number
    → named_call h.call ≡ Some c → IsSubmission c
asks_submission say h (inl is) number c asks says =
    numbered_submission say h.line number c (sym (ap (λ (x : HeardLine). x.number) is) ∙ asks)
    (sym (ap (λ (x : HeardLine). named_call x.call) is) ∙ says)
asks_submission say h (inr (take, tags, is)) number c asks says =
    say.written take.replica take.object (op.Remove tags) c (sym (ap (λ (x : HeardLine). named_call x.call) is) ∙ says)

module _ (laws : ProposersGoOn) (say : SaySubmissions) (objects : List (ℕ × Kind)) (n : ServerState) (k number : ℕ)
    (t : Turn) (may : MayGoOn n.kept) (asks : t.heard.number ≡ Some number) where
  silent : (u : Turn) → t ≡ u → u.after.kept ≡ n.kept → u.text ≡ [] → Comes n number t
  silent u is same none =
      inl (ap (λ (x : Turn). x.after.kept) is ∙ same, inl (ap (λ (x : Turn). x.text) is ∙ none))

  refused : (u : Turn) (j : ℕ) (why name : List ℕ) → t ≡ u → u.after.kept ≡ n.kept
      → u.text ≡ refused_note (own_of n) j why name → Comes n number t
  refused u j why name is same text =
      inl (ap (λ (x : Turn). x.after.kept) is ∙ same, inr (j, why, name, ap (λ (x : Turn). x.text) is ∙ text))

  -- a line that says no number
  unnumbered_line : (h : HeardLine) → t.heard ≡ h → h.number ≡ None → Comes n number t
  unnumbered_line h is none =
      absurd (none-some number (sym none ∙ sym (ap (λ (x : HeardLine). x.number) is) ∙ asks))

  module _ (replica object : ℕ) (does : Op) (own : (replica == n.kept.own) ≡ true)
      (says : named_call t.heard.call ≡ Some (Submit replica object does)) where
    abbrev d : ObjectOp
    d = op_on object does

    asks_this : AsksUnder n.kept.own t.heard number d
    asks_this = record {
      numbered = asks;
      says = says ∙ ap (λ r. Some (Submit r object does)) (eqb-true replica n.kept.own own);
    }

    taken : is_next_number n.kept number ≡ true → IsCallTaken n (Submit replica object does) t → Comes n number t
    taken next is =
        let call = call_of_line n.kept (Submit replica object does) (is.given, t.after.kept) is.acted in
        let this : Submitted d ≡ call.0 =
        (where_some (replica == n.kept.own) (Submitted d) call.0 call.1).1 in
        let goes = step_goes laws n.kept may (Submitted d) (is.given, t.after.kept)
        (subst (λ a. node_step n.kept a ≡ Some (is.given, t.after.kept)) (sym this) call.2) in
        inr (d, asks_this, inr (eqb-true number (length (submissions_by n.kept) + 1) next, goes.adds))

    refused_so : (w : Why) → t ≡ only_says n k t.heard (said.Refused w) → Comes n number t
    refused_so w is = refused _ k (why_word w) t.heard.name is refl refl

    by_under : (o : Option Said) → IsSaidUnder n.kept t.heard.name d (Some number) o
        → IsSaidTurn n k (Submit replica object does) o t → Comes n number t
    by_under None next (inl kept) = taken next kept
    by_under None next (inr refusal) = refused _ k _ t.heard.name refusal.turn refl refl
    by_under (Some (said.Lines text)) (other, (same, is)) turn =
        inr (d, asks_this, inl (ap (λ (x : Turn). x.after.kept) turn, same))
    by_under (Some (said.Refused w)) is turn = refused_so w turn

    by_fit : (u : Option Why) (o : Option Said) → IsSaidUnlessFit u n.kept t.heard d o
        → IsSaidTurn n k (Submit replica object does) o t → Comes n number t
    by_fit (Some w) o is turn =
        refused_so w (subst (λ (x : Option Said). IsSaidTurn n k (Submit replica object does) x t) is turn)
    by_fit None o is turn =
        by_under o (subst (λ x. IsSaidUnder n.kept t.heard.name d x o) asks is) turn

  by_call : (c : WireCall) → IsSubmission c → named_call t.heard.call ≡ Some c → IsCallTurn objects n k c t
      → Comes n number t
  by_call (Submit replica object does) is says turn =
      elim (one_is (not (replica == n.kept.own)) turn) [
        | inl (away, passed) ↦ silent _ passed refl refl
        | inr (own, (o, said, here)) ↦
            by_fit replica object does (same_own (replica == n.kept.own) own) says
            (unfit (kind_at objects object) does) o said here
      ]
  by_call (Decide replica commit value) is says turn = absurd is
  by_call (Ask replica object query) is says turn = absurd is
  by_call Tick is says turn = absurd is
  by_call (Receive m) is says turn = absurd is
  by_call (Known s) is says turn = absurd is

  by_heard : IsHeardSo t.heard → (SaysCall objects n k t ⊎ HasFault n k t) → Comes n number t
  by_heard so (inl s) = by_call s.call (asks_submission say t.heard so number s.call asks s.says) s.says s.turn
  by_heard so (inr has) = silent _ has.turn refl refl

  by_question : (q : Question) → IsQuestionTurn objects n k q t → Comes n number t
  by_question q is = elim (one_of (asks_of q == own_of n) is) [
    | inl said ↦ unnumbered_line (heard_name t.heard.line) (ap (λ (u : Turn). u.heard) said.2) refl
    | inr passed ↦ unnumbered_line (heard_name t.heard.line) (ap (λ (u : Turn). u.heard) passed) refl
  ]

  by_take : (take : Take) → IsTakeTurn objects n k take t → Comes n number t
  by_take take is = elim (one_of (leb (length (taken_tags objects n.kept take)) MAX_TAGS) is) [
    | inl heard ↦ by_heard (inr (take, taken_tags objects n.kept take, heard.0)) heard.1
    | inr many ↦ unnumbered_line (heard_name t.heard.line) (ap (λ (u : Turn). u.heard) many) refl
  ]

  by_request : (q : Option Question) (take : Option Take) → IsRequestTurn objects n k q take t → Comes n number t
  by_request (Some q) take is = by_question q is
  by_request None (Some take) is = by_take take is
  by_request None None is = by_heard (inl is.0) is.1

  by_short : IsShortTurn objects n k t → Comes n number t
  by_short is = elim (one_of (is_note t.heard.line) is) [
    | inl note ↦ silent _ note refl refl
    | inr (inl request) ↦ by_request (question_in (bare t.heard.line)) (take_in (bare t.heard.line)) request
    | inr (inr hungry) ↦ unnumbered_line (heard_name t.heard.line) (ap (λ (u : Turn). u.heard) hungry) refl
  ]

  comes : IsTurn objects n k t → Comes n number t
  unfolding IsTurn
  comes is = elim (one_of (is_too_long t.heard.line) is) [
    | inl long ↦ silent _ long refl refl
    | inr short ↦ by_short short
  ]

  once : IsTurn objects n k t
      → (t.after.kept ≡ n.kept)
      ⊎ ((d : ObjectOp) × AsksUnder n.kept.own t.heard number d × AddsUnder number d n.kept t.after.kept)
  once is = elim (comes is) [
    | inl (same, unanswered) ↦ inl same
    | inr (does, this, inl (same, stands)) ↦ inl same
    | inr (does, this, inr adds) ↦ inr (does, this, adds)
  ]

  answered : (more : List ℕ) → IsTurn objects n k t → t.text ≡ submitted_note n.kept.own number t.heard.name ++ more
      → (d : ObjectOp) × AsksUnder n.kept.own t.heard number d × (submission_under t.after.kept number ≡ Some d)
  answered more is text = elim (comes is) [
    | inl (same, inl none) ↦ absurd (not_silent n.kept.own number t.heard.name more (sym none ∙ text))
    | inl (same, inr (j, why, name, refusal)) ↦
        absurd (not_refused n.kept.own number j t.heard.name why name more (sym text ∙ refusal))
    | inr (does, this, inl (same, stands)) ↦ (does, this, ap (λ r. submission_under r number) same ∙ stands)
    | inr (does, this, inr adds) ↦ (does, this, adds_under number does n.kept t.after.kept adds)
  ]

-- ## All turns

module _ (laws : ProposersGoOn) (objects : List (ℕ × Kind)) where
  same_goes : (before after : ReplicaState) → MayGoOn before → after ≡ before → GoesOnWith [] before after
  same_goes before after may same =
      subst (GoesOnWith [] before) (sym same)
      (record { may = may; own = refl; adds = sym (append-nil (submissions_by before)) })

  turn_goes : (n : ServerState) (k : ℕ) (t : Turn) → MayGoOn n.kept → IsTurn objects n k t
      → (ds : List ObjectOp) × GoesOnWith ds n.kept t.after.kept
  turn_goes n k t may is = elim (what objects n k t is) [
    | inl quiet ↦ ([], same_goes n.kept t.after.kept may quiet.1)
    | inr (inl (known, over, why, again)) ↦
        ([], same_goes n.kept t.after.kept may (ap (λ (x : Turn). x.after.kept) again.turn))
    | inr (inr takes) ↦
        let call = call_of_line n.kept takes.call (takes.taken.given, t.after.kept) takes.taken.acted in
        (_, step_goes laws n.kept may call.0 (takes.taken.given, t.after.kept) call.2)
  ]

  stays : (n after : ServerState) (k number : ℕ) (turns : List Turn) (d : ObjectOp) → MayGoOn n.kept
      → AreTurns objects n k turns after → submission_under n.kept number ≡ Some d
      → submission_under after.kept number ≡ Some d
  stays n after k number [] d may are is =
      subst (λ (m : ServerState). submission_under m.kept number ≡ Some d) (sym are) is
  stays n after k number (t ∷ turns) d may are is =
      let goes = turn_goes n k t may are.0 in
      stays t.after after (k + 1) number turns d goes.1.may are.1
      (ap (λ ds. object_op_number ds number) goes.1.adds
      ∙ under_more (submissions_by n.kept) goes.0 number d is)

  goes_on : (n after : ServerState) (k : ℕ) (turns : List Turn) → MayGoOn n.kept → AreTurns objects n k turns after
      → MayGoOn after.kept × (after.kept.own ≡ n.kept.own)
  goes_on n after k [] may are =
      subst (λ (m : ServerState). MayGoOn m.kept × (m.kept.own ≡ n.kept.own)) (sym are) (may, refl)
  goes_on n after k (t ∷ turns) may are =
      let goes = (turn_goes n k t may are.0).1 in
      let rest = goes_on t.after after (k + 1) turns goes.may are.1 in (rest.0, rest.1 ∙ goes.own)

pub numbers_count : ProposersGoOn → SaySubmissions → NumbersCountOnce
numbers_count laws say = record {
  once = λ objects n k number t may is asks. once laws say objects n k number t may asks is;
  answered =
      λ objects n k number t more may is asks text. answered laws say objects n k number t may asks more is text;
  stays = λ objects n after k number turns d may are is. stays laws objects n after k number turns d may are is;
  goes_on = λ objects n after k turns may are. goes_on laws objects n after k turns may are;
}

-- ## Over lives

-- the call of a line that was taken
call_said : (before after : ReplicaState) (o : Option WireCall)
    → option_map (λ (made : Given × ReplicaState). made.1) (acts_by before o) ≡ Some after
    → (call : WireCall) × (given : Given) × (acts before call ≡ Some (given, after))
call_said before after None e = absurd (none-some after e)
call_said before after (Some call) e = let made = made_is (acts before call) e in (call, made.0, made.1)
  where
    made_is : (o : Option (Given × ReplicaState)) → option_map (λ (made : Given × ReplicaState). made.1) o ≡ Some after
        → (given : Given) × (o ≡ Some (given, after))
    made_is None e = absurd (none-some after e)
    made_is (Some made) e = (made.0, ap (λ (q : ReplicaState). Some (made.0, q)) (same_Some made.1 after e))

nowhere : (calls : List CallLine) → steps_from step calls None ≡ None
nowhere [] = refl
nowhere (c ∷ calls) = nowhere calls

module _ (laws : ProposersGoOn) where
  call_stands : (before after : ReplicaState) (c : CallLine) → MayGoOn before → step before c ≡ Some after
      → StandsOn before after
  call_stands before after c may e =
      let said = call_said before after (named_call c.line) e in
      let call = call_of_line before said.0 (said.1, after) said.2 in
      let goes = step_goes laws before may call.0 (said.1, after) call.2 in (
        (λ number d is.
            ap (λ ds. object_op_number ds number) goes.adds ∙ under_more (submissions_by before) _ number d is),
        goes.may,
        goes.own,
      )

  calls_from : (before after : ReplicaState) (calls : List CallLine) (o : Option ReplicaState) → MayGoOn before
      → ((mid : ReplicaState) → o ≡ Some mid → StandsOn before mid) → steps_from step calls o ≡ Some after
      → StandsOn before after
  calls_from before after [] o may stands led = stands after led
  calls_from before after (c ∷ calls) None may stands led =
      absurd (none-some after (sym (nowhere calls) ∙ led))
  calls_from before after (c ∷ calls) (Some mid) may stands led =
      let here = stands mid refl in
      calls_from before after calls (step mid c) may
      (λ next e.
      let then = call_stands mid next c here.1 e in (
        (λ number d is. then.0 number d (here.0 number d is)),
        then.1,
        then.2 ∙ here.2,
      )) led

  stays_itself : (before mid : ReplicaState) → MayGoOn before → Some before ≡ Some mid → StandsOn before mid
  stays_itself before mid may e =
      subst (StandsOn before) (same_Some before mid e) ((λ number d is. is), may, refl)

  calls_stand : (before after : ReplicaState) (calls : List CallLine) → MayGoOn before
      → steps step calls before ≡ Some after → StandsOn before after
  calls_stand before after calls may led =
      calls_from before after calls (Some before) may (λ mid e. stays_itself before mid may e) led

  pub over_lives : {D : Type 0} (seen : D → List ℕ) (may_leave : D → List ℕ → Type 0) (moment : D → ℕ)
      (left_since : D → ℕ → List ℕ → Type 0) → NodeLivesAreOneRun seen may_leave moment left_since
      → NumbersCountOverLives seen may_leave moment left_since
  over_lives seen may_leave moment left_since run = record {
    lives = λ fresh first after lives file may are leads.
        let whole = run fresh first lives file are in
        calls_stand first after whole.0 may (sym whole.2 ∙ leads);
    calls = calls_stand;
  }
