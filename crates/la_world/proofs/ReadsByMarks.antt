-- Reads by a Mark: the answer at a place is over a set that was learnt at a line before, and that contains
-- all that had been learnt before the Mark was submitted.
use Rattle.std.proofs.Common.{◌≡◌, ℕ, ◌<◌, List, [], ◌∷◌, ◌++◌, length, take, reverse, slice_get, Option, Some, None, IsSome, refl, ap, sym, ◌∙◌, subst, inl, inr}
use Rattle.std.proofs.lemmas.List.{reverse-append}
use Rattle.std.proofs.lemmas.Option.{slice_get_within}
use Rattle.la_set.specs.Histories.{get}
use Rattle.la_set.specs.Inclusion.{IsSubset}
use Rattle.la_set.proofs.lemmas.NumberedLists.{slice_get-append_left}
use Rattle.la_object.specs.Shelves.{answer_at}
use Rattle.la_world.specs.declared.error.Refusal.{Refusal}
use Rattle.la_world.specs.declared.report.Line.{Line}
use Rattle.la_world.specs.declared.report.Line.TheVariants.{Done, Refused}
use Rattle.la_world.specs.declared.step.Learnt.{Learnt}
use Rattle.la_world.specs.Groups.{Group, replicas, kinds_on}
use Rattle.la_world.specs.Events.{Event}
use Rattle.la_world.specs.Trace as did
use Rattle.la_world.specs.Trace.{Did, Trace}
use Rattle.la_world.specs.Ballots.{opening_learnt}
use Rattle.la_world.specs.Playing.{event_entry, trace}
use Rattle.la_world.specs.Learnings.{learning_of, learnt}
use Rattle.la_world.specs.Report.{refused, shown_as, line_of, Run, runs, runs_on, report_lines, trace_of}
use Rattle.la_world.specs.Reading.{view_at_place, learnt_by_did, IsLearntAt}
use Rattle.la_world.specs.Headline.{MarksAreRead}
use Rattle.la_world.proofs.Lists.{IsIn, in_either}
use Rattle.la_world.proofs.Asking.{answers_are_values}
use Rattle.la_world.proofs.Order.{held_within, view_learnt}
use Rattle.la_world.proofs.Places.{accepted_of, IsSubmittedAt, learnt_in_order_of_places}
use Rattle.la_world.proofs.SubmissionLines.{lines_before, submits_by_trace}
use Rattle.la_world.proofs.OwnUpdates.{get_taken}
use Rattle.la_world.proofs.ShownLater.{shown_later}

-- ## The line of a learnt set

learnt_shown : (n place : ℕ) (d : Did) (y : Learnt) → IsIn y (learning_of place (opening_learnt d))
    → learnt_by_did (shown_as n place d) ≡ Some y
learnt_shown n place (did.Learnt b next) y (inl e) = ap Some e
learnt_shown n place (did.Learnt b next) y (inr h) = absurd h
learnt_shown n place (did.Opened b) y h = absurd h
learnt_shown n place (did.Held id) y h = absurd h
learnt_shown n place (did.Answered reply) y h = absurd h
learnt_shown n place did.Counted y h = absurd h
learnt_shown n place did.Ignored y h = absurd h
learnt_shown n place (did.Refined b) y h = absurd h
learnt_shown n place (did.Took s) y h = absurd h
learnt_shown n place did.Kept y h = absurd h
learnt_shown n place (did.Replied answer) y h = absurd h

last_at : {A : Type 0} (xs : List A) (x : A) → slice_get (xs ++ x ∷ []) (length xs) ≡ Some x
last_at [] x = refl
last_at (y ∷ xs) x = last_at xs x

line_in : (g : Group) (es : List Event) (y : Learnt) → IsIn y (learnt (trace g (runs g es).accepted))
    → (j : ℕ) × IsLearntAt (reverse (runs g es).lines) j y
unfolding runs trace learnt
line_in g [] y h = absurd h
line_in g (e ∷ es) y h = go (line_in g es y) (refused g t e) h
  where
    ran : Run
    ran = runs g es

    t : Trace
    t = trace g ran.accepted

    n : ℕ
    n = length (reverse ran.lines)

    kept : (l : Line) → (j : ℕ) × IsLearntAt (reverse ran.lines) j y
        → (j : ℕ) × IsLearntAt (reverse (l ∷ ran.lines)) j y
    kept l p =
        let within = slice_get_within (reverse ran.lines) p.0 (Done p.1.step) p.1.done in (
          p.0,
          record {
            step = p.1.step;
            done =
                ap (λ ls. slice_get ls p.0) (reverse-append (l ∷ []) ran.lines)
                ∙ slice_get-append_left (reverse ran.lines) (l ∷ []) p.0 within ∙ p.1.done;
            learnt = p.1.learnt;
          },
        )

    last : (l : Line) → slice_get (reverse (l ∷ ran.lines)) n ≡ Some l
    last l = ap (λ ls. slice_get ls n) (reverse-append (l ∷ []) ran.lines) ∙ last_at (reverse ran.lines) l

    go : (IsIn y (learnt t) → (j : ℕ) × IsLearntAt (reverse ran.lines) j y) → (o : Option Refusal)
        → IsIn y (learnt (trace g (runs_on g ran e t o).accepted))
        → (j : ℕ) × IsLearntAt (reverse (runs_on g ran e t o).lines) j y
    go rest (Some name) k = kept (Refused name) (rest k)
    go rest None k =
        let d = (event_entry g t e).did in
        elim (in_either y (learnt t) (learning_of (length t) (opening_learnt d)) k) [
          | inl old ↦ kept (line_of g t e) (rest old)
          | inr new ↦ (n, record { step = _; done = last (line_of g t e); learnt = learnt_shown (replicas g) (length t) d y new })
        ]

module _ (g : Group) (events : List Event) where
  -- what was learnt by a place was learnt at a line before
  line_before : (k : ℕ) (y : Learnt) → IsIn y (learnt (trace_of g (take k events)))
      → (j : ℕ) × (j < k) × IsLearntAt (report_lines g events) j y
  line_before k y h =
      let p = line_in g (reverse (take k events)) y h in
      let at : slice_get (take k (report_lines g events)) p.0 ≡ Some (Done p.1.step) =
      ap (λ ls. slice_get ls p.0) (sym (lines_before g events k)) ∙ p.1.done in
      let q = get_taken k p.0 (report_lines g events) (Done p.1.step) at in
      (p.0, q.0, record { step = p.1.step; done = q.1; learnt = p.1.learnt })

  pub marks_are_read : MarksAreRead g events (report_lines g events)
  marks_are_read m j k object mark x query answer s at of_objects holds lt asked =
      let r = x.replica in
      let shown = view_at_place g events k r in
      let has : IsSome (get shown mark.id) =
      held_within x.updates shown mark.id (shown_later g events j k x at of_objects lt) holds in
      let known = view_learnt g (accepted_of g (take k events)) r mark.id has in
      let read = known.learnt_as in
      let line = line_before k read known.was in
      record {
        earlier = line.0;
        before = line.1;
        read = read;
        was = line.2;
        of_objects = known.of_objects;
        value = ap (λ u. answer_at (record { view = u; objects = kinds_on g r }) object query) known.set ∙ answers_are_values g events k r object query answer asked;
        own =
            λ l y at_y before of_y of_r.
            subst (IsSubset y.updates) (sym known.set)
            (subst (λ q. IsSubset y.updates (view_at_place g events k q)) of_r
            (shown_later g events l k y at_y of_y before));
        current = λ l y at_y before of_y.
            learnt_in_order_of_places g events l m line.0 y read mark.id at_y
            (subst (λ i. IsSubmittedAt g events (report_lines g events) m i mark.id) (sym of_y)
            (submits_by_trace g events m 0 mark s)) before
            line.2 (of_y ∙ sym known.of_objects) (subst (λ u. IsSome (get u mark.id)) (sym known.set) has);
      }
