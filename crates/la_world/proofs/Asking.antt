-- What a report says of each event of a list, and so of each question.
use Rattle.std.proofs.Common.{◌≡◌, ℕ, ◌<◌, List, [], ◌∷◌, ◌++◌, length, take, reverse, slice_get, unwrap_or, Option, Some, None, option_map, refl, ap, ap₂, sym, ◌∙◌, arith, inl, inr}
use Rattle.std.specs.Prelude.{nat_le}
use Rattle.std.proofs.lemmas.Bool.{cases_lt}
use Rattle.std.proofs.lemmas.List.{reverse-append, reverse-reverse, length-reverse, take_all, take-append-le}
use Rattle.std.proofs.lemmas.Option.{same_Some, none-some, slice_get_within}
use Rattle.la_set.proofs.lemmas.NumberedLists.{slice_get-append_left}
use Rattle.la_object.specs.declared.kind.Kind.{Kind}
use Rattle.la_object.specs.declared.query.Answer.{Answer}
use Rattle.la_object.specs.declared.query.Answer.TheVariants.{Foreign}
use Rattle.la_object.specs.Objects.{value}
use Rattle.la_object.specs.Shelves.{kind_at, updates_at}
use Rattle.la_world.specs.declared.error.Refusal.{Refusal}
use Rattle.la_world.specs.declared.error.Refusal.TheVariants.{NoSuchReplica}
use Rattle.la_world.specs.declared.report.Line.{Line}
use Rattle.la_world.specs.declared.report.Line.TheVariants.{Done, Refused}
use Rattle.la_world.specs.declared.step.Step.{Step}
use Rattle.la_world.specs.declared.step.Did as step
use Rattle.la_world.specs.declared.step.Did.TheVariants as shown
use Rattle.la_world.specs.Groups.{Group, replicas, kinds_on}
use Rattle.la_world.specs.Events.{Event, Ask}
use Rattle.la_world.specs.Trace.{Trace}
use Rattle.la_world.specs.Playing.{answer_of, trace}
use Rattle.la_world.specs.Report.{refused, refused_object, line_of, runs, runs_on, report_lines, trace_of}
use Rattle.la_world.specs.Laws.{AnswersAreValues, ReportedAnswersAreValues}
use Rattle.la_world.specs.Headline.{EqualViewsAnswerAlike}
use Rattle.la_world.proofs.Allowing.{none_from_cond}
use Rattle.la_world.proofs.Safe.{line_each}

-- ## The line of an event

-- what becomes of an event, where it is refused by this name or not
abbrev pub becomes : Group → Trace → Event → Option Refusal → Line
becomes g t e None = line_of g t e
becomes g t e (Some name) = Refused name

line_added : (g : Group) (es : List Event) (e : Event) → let t = trace g (runs g es).accepted in (runs g (e ∷ es)).lines ≡ becomes g t e (refused g t e) ∷ (runs g es).lines
unfolding runs
line_added g es e = go (refused g (trace g (runs g es).accepted) e)
  where
    go : (o : Option Refusal)
        → (runs_on g (runs g es) e (trace g (runs g es).accepted) o).lines
        ≡ becomes g (trace g (runs g es).accepted) e o ∷ (runs g es).lines
    go None = refl
    go (Some name) = refl

-- the thing that stands last
last_is : {A : Type 0} (xs : List A) (x : A) (k : ℕ) → k ≡ length xs → slice_get (xs ++ x ∷ []) k ≡ Some x
last_is [] x k e = ap (slice_get (x ∷ [])) e
last_is (y ∷ xs) x k e = ap (slice_get (y ∷ xs ++ x ∷ [])) e ∙ last_is xs x (length xs) refl

module _ (g : Group) where
  -- the trace that an event of a list comes after, where these are the events in the order of play
  before : (events : List Event) (k : ℕ) → Trace
  before events k = trace_of g (take k events)

  line_at : (es : List Event) (k : ℕ) (d : Event) → slice_get (reverse es) k ≡ Some d → let t = before (reverse es) k in slice_get (reverse (runs g es).lines) k ≡ Some (becomes g t d (refused g t d))
  unfolding before
  line_at [] k d e = absurd (none-some d e)
  line_at (e ∷ es) k d is = elim (cases_lt k (length es)) [
    | inl lt ↦
        let there : slice_get (reverse es) k ≡ Some d =
        sym (slice_get-append_left (reverse es) (e ∷ []) k (omega (arith, events_many)))
        ∙ ap (λ xs. slice_get xs k) (sym listed) ∙ is in
        let same : take k (reverse (e ∷ es)) ≡ take k (reverse es) =
        ap (take k) listed ∙ take-append-le k (reverse es) (e ∷ []) (omega (arith, events_many)) in
        ap (λ ls. slice_get ls k) lines_listed
        ∙ slice_get-append_left (reverse (runs g es).lines) (line ∷ []) k (omega (arith, lines_many))
        ∙ line_at es k d there
        ∙ ap (λ xs. let t = trace_of g xs in Some (becomes g t d (refused g t d))) (sym same)
    | inr le ↦
        let in_list : k < length (reverse (e ∷ es)) = slice_get_within (reverse (e ∷ es)) k d is in
        let last : k ≡ length es = omega (arith, length-reverse (e ∷ es)) in
        let at : e ≡ d =
        same_Some e d
        (sym (last_is (reverse es) e k (last ∙ sym events_many)) ∙ ap (λ xs. slice_get xs k) (sym listed) ∙ is) in
        let all : take k (reverse (e ∷ es)) ≡ reverse es =
        ap (take k) listed ∙ take-append-le k (reverse es) (e ∷ []) (omega (arith, events_many))
        ∙ take_all k (reverse es) (omega (arith, events_many)) in
        let then : trace_of g (take k (reverse (e ∷ es))) ≡ trace g (runs g es).accepted =
        ap (trace_of g) all ∙ ap (λ xs. trace g (runs g xs).accepted) (reverse-reverse es) in
        ap (λ ls. slice_get ls k) lines_listed ∙ last_is (reverse (runs g es).lines) line k (last ∙ sym lines_many)
        ∙ ap₂ (λ t z. Some (becomes g t z (refused g t z))) (sym then) at
  ]
    where
      line : Line
      line = let t = trace g (runs g es).accepted in becomes g t e (refused g t e)

      listed : reverse (e ∷ es) ≡ reverse es ++ e ∷ []
      listed = reverse-append (e ∷ []) es

      events_many : length (reverse es) ≡ length es
      events_many = length-reverse es

      lines_listed : reverse (runs g (e ∷ es)).lines ≡ reverse (runs g es).lines ++ line ∷ []
      lines_listed = ap reverse (line_added g es e) ∙ reverse-append (line ∷ []) (runs g es).lines

      lines_many : length (reverse (runs g es).lines) ≡ length es
      lines_many = length-reverse (runs g es).lines ∙ line_each g es

  -- what a report says of the event at a place, by the events before
  pub line_of_place : (events : List Event) (k : ℕ) (d : Event) → slice_get events k ≡ Some d → let t = trace_of g (take k events) in slice_get (report_lines g events) k ≡ Some (becomes g t d (refused g t d))
  unfolding before
  line_of_place events k d is =
      line_at (reverse events) k d (ap (λ xs. slice_get xs k) (reverse-reverse events) ∙ is)
      ∙ ap (λ xs. let t = trace_of g (take k xs) in Some (becomes g t d (refused g t d))) (reverse-reverse events)

-- ## Questions

replied_by : step.Did → Option Answer
replied_by (shown.Replied answer) = Some answer
replied_by _ = None

abbrev pub done_by : Line → Option Step
done_by (Done s) = Some s
done_by (Refused name) = None

-- what is not refused is answered
value_there : (o : Option Kind) (f : Kind → Answer) (answer : Answer) → refused_object o ≡ None
    → unwrap_or (option_map f o) Foreign ≡ answer → option_map f o ≡ Some answer
value_there None f answer allowed is = cc
value_there (Some kind) f answer allowed is = ap Some is

pub answers_are_values : ReportedAnswersAreValues
unfolding answer_of replied_by
answers_are_values g events place r object query answer h = go (refused g t e) refl line_is
  where
    t : Trace
    t = trace_of g (take place events)

    e : Event
    e = Ask r object query

    line_is : becomes g t e (refused g t e) ≡ Done h.step
    line_is = same_Some _ _ (sym (line_of_place g events place e h.asked) ∙ h.done)

    go : (o : Option Refusal) → refused g t e ≡ o → becomes g t e o ≡ Done h.step
        → answer_of g t r object query ≡ Some answer
    go (Some name) is k = absurd (none-some h.step (ap done_by k))
    go None allowed k =
        let done = same_Some _ h.step (ap done_by k) in
        let replied = same_Some _ answer (ap (λ (s : Step). replied_by s.did) done ∙ ap replied_by h.replied) in
        let object_allowed =
        (none_from_cond (nat_le (replicas g) r) NoSuchReplica (refused_object (kind_at (kinds_on g r) object)) allowed).1
        in
        value_there (kind_at (kinds_on g r) object) _ answer object_allowed replied

pub answers_alike : (g : Group) (events : List Event) (steps : List Line) → AnswersAreValues g events steps
    → EqualViewsAnswerAlike g events steps
answers_alike g events steps values j k r q object query a b x y kinds views =
    same_Some a b (sym (values j r object query a x)
    ∙ ap₂ (λ o v. option_map (λ kind. value kind (updates_at v object) query) o) kinds views
    ∙ values k q object query b y)
