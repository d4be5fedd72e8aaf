-- What every report keeps: of its lines, of what they show as learnt, and of its views.
use Rattle.std.proofs.Common.{◌≡◌, ℕ, zero, suc, ◌+◌, ◌<◌, ◌≤◌, List, [], ◌∷◌, ◌++◌, append-nil, length, reverse, slice_get, Option, Some, None, IsSome, refl, ap, sym, ◌∙◌, subst, arith}
use Rattle.std.specs.Prelude.{option_and_then}
use Rattle.std.specs.List.{filter_map, cons_option}
use Rattle.std.proofs.lemmas.List.{reverse-append}
use Rattle.std.proofs.lemmas.List.Elements.{filter_map-append}
use Rattle.std.proofs.lemmas.Option.{none-some}
use Rattle.la_set.specs.Histories.{get}
use Rattle.la_world.specs.declared.error.Refusal.{Refusal}
use Rattle.la_world.specs.declared.report.Line.{Line}
use Rattle.la_world.specs.declared.report.Line.TheVariants.{Refused}
use Rattle.la_world.specs.declared.step.Learnt.{Learnt}
use Rattle.la_world.specs.Groups.{Group, group_of, replicas}
use Rattle.la_world.specs.Events.{Event}
use Rattle.la_world.specs.Trace as did
use Rattle.la_world.specs.Trace.{Did, Trace}
use Rattle.la_world.specs.Ballots.{opening_learnt}
use Rattle.la_world.specs.Playing.{event_entry, trace}
use Rattle.la_world.specs.Learnings.{learning_of, learnt}
use Rattle.la_world.specs.Report.{Run, refused, shown_as, line_of, runs, runs_on, report_lines, trace_of}
use Rattle.la_world.specs.Reading.{learnt_by_did, learnt_on, IsLearntAt}
use Rattle.la_world.specs.Headline.{AreListed, LinesAreComparable, LinesGrow, ReportsKeepPromises}
use Rattle.la_world.proofs.Asking.{answers_are_values, answers_alike}
use Rattle.la_world.proofs.Chains.{learnt_comparable}
use Rattle.la_world.proofs.LearntOrder.{learnt_grow}
use Rattle.la_world.proofs.Places.{accepted_of, learnt_at_end, learnt_in_order_of_places, removed_shown}
use Rattle.la_world.proofs.SubmissionLines.{ops_before, submits_by_trace}
use Rattle.la_world.proofs.OwnUpdates.{learnt_were_submitted, learnt_hold_their_own}
use Rattle.la_world.proofs.ReadsByMarks.{marks_are_read}
use Rattle.la_world.proofs.Promised.{one_history}
use Rattle.la_world.proofs.Outcomes.{outcomes_listed}
use Rattle.la_world.proofs.Safe.{reported}
use Rattle.la_world.proofs.Seeing.{views_seen}
use Rattle.la_world.proofs.WorldSteps.{few_of}

-- ## The lines show exactly what was learnt

line_learns : (n place : ℕ) (d : Did)
    → cons_option (learnt_by_did (shown_as n place d)) [] ≡ learning_of place (opening_learnt d)
line_learns n place (did.Learnt b next) = refl
line_learns n place (did.Opened b) = refl
line_learns n place (did.Held id) = refl
line_learns n place (did.Answered reply) = refl
line_learns n place did.Counted = refl
line_learns n place did.Ignored = refl
line_learns n place (did.Refined b) = refl
line_learns n place (did.Took s) = refl
line_learns n place did.Kept = refl
line_learns n place (did.Replied answer) = refl

listed_in : (g : Group) (es : List Event)
    → learnt (trace g (runs g es).accepted) ≡ filter_map learnt_on (reverse (runs g es).lines)
unfolding runs trace learnt
listed_in g [] = refl
listed_in g (e ∷ es) = go (refused g t e) (listed_in g es)
  where
    ran : Run
    ran = runs g es

    t : Trace
    t = trace g (runs g es).accepted

    pushed : (l : Line)
        → filter_map learnt_on (reverse (l ∷ ran.lines))
        ≡ filter_map learnt_on (reverse ran.lines) ++ cons_option (learnt_on l) []
    pushed l =
        ap (filter_map learnt_on) (reverse-append (l ∷ []) ran.lines)
        ∙ filter_map-append learnt_on (reverse ran.lines) (l ∷ [])

    go : (o : Option Refusal) → learnt t ≡ filter_map learnt_on (reverse ran.lines)
        → learnt (trace g (runs_on g ran e t o).accepted) ≡ filter_map learnt_on (reverse (runs_on g ran e t o).lines)
    go None h =
        let d = (event_entry g t e).did in
        ap (λ ls. ls ++ learning_of (length t) (opening_learnt d)) h
        ∙ ap (λ ls. filter_map learnt_on (reverse ran.lines) ++ ls) (sym (line_learns (replicas g) (length t) d))
        ∙ sym (pushed (line_of g t e))
    go (Some name) h = h ∙ sym (append-nil (filter_map learnt_on (reverse ran.lines))) ∙ sym (pushed (Refused name))

pub listed : (g : Group) (events : List Event) → AreListed (report_lines g events) (learnt (trace_of g events))
listed g events = listed_in g (reverse events)

-- ## Two lines, and what they show in the list

module _ {X Y : Type 0} (f : X → Option Y) where
  record Shown (ys : List Y) (y : Y) (from : ℕ) : Type 0 where
    at : ℕ
    is : slice_get ys at ≡ Some y
    after : from ≤ at

  behind : (o : Option Y) (ys : List Y) (y : Y) (from : ℕ) → Shown ys y from → Shown (cons_option o ys) y from
  behind None ys y from h = h
  behind (Some z) ys y from h = record { at = suc h.at; is = h.is; after = let le = h.after in omega arith }

  gives : (xs : List X) (k : ℕ) (y : Y) → option_and_then f (slice_get xs k) ≡ Some y → Shown (filter_map f xs) y 0
  gives [] k y e = absurd (none-some y e)
  gives (x ∷ xs) zero y e = record { at = 0; is = ap (λ o. slice_get (cons_option o (filter_map f xs)) 0) e; after = omega arith }
  gives (x ∷ xs) (suc k) y e = behind (f x) (filter_map f xs) y 0 (gives xs k y e)

  record AreShown (ys : List Y) (y z : Y) : Type 0 where
    first : Shown ys y 0
    second : Shown ys z (first.at + 1)

  both_behind : (o : Option Y) (ys : List Y) (y z : Y) → AreShown ys y z → AreShown (cons_option o ys) y z
  both_behind None ys y z h = h
  both_behind (Some w) ys y z h = record {
    first = record { at = suc h.first.at; is = h.first.is; after = omega arith };
    second = record { at = suc h.second.at; is = h.second.is; after = let le = h.second.after in omega arith };
  }

  give_both : (xs : List X) (j k : ℕ) (y z : Y) → option_and_then f (slice_get xs j) ≡ Some y
      → option_and_then f (slice_get xs k) ≡ Some z → j < k → AreShown (filter_map f xs) y z
  give_both [] j k y z e h lt = absurd (none-some y e)
  give_both (x ∷ xs) zero zero y z e h lt = absurd (omega arith)
  give_both (x ∷ xs) (suc j) zero y z e h lt = absurd (omega arith)
  give_both (x ∷ xs) zero (suc k) y z e h lt =
      let later = gives xs k z h in
      subst (λ o. AreShown (cons_option o (filter_map f xs)) y z) (sym e)
      (record { first = record { at = 0; is = refl; after = omega arith }; second = record { at = suc later.at; is = later.is; after = omega arith } })
  give_both (x ∷ xs) (suc j) (suc k) y z e h lt =
      both_behind (f x) (filter_map f xs) y z (give_both xs j k y z e h (omega arith))

-- ## What lines promise

line_at : (steps : List Line) (k : ℕ) (x : Learnt) → IsLearntAt steps k x
    → option_and_then learnt_on (slice_get steps k) ≡ Some x
line_at steps k x h = ap (option_and_then learnt_on) h.done ∙ h.learnt

module _ (g : Group) (events : List Event) where
  lines_comparable : LinesAreComparable (report_lines g events)
  lines_comparable j k x y a b same =
      learnt_comparable g (accepted_of g events) x y (learnt_at_end g events j x a) (learnt_at_end g events k y b) same

  lines_grow : LinesGrow (report_lines g events)
  lines_grow j k x y a b ei er lt =
      let steps = report_lines g events in
      let p = give_both learnt_on steps j k x y (line_at steps j x a) (line_at steps k y b) lt in
      learnt_grow g (accepted_of g events) p.first.at p.second.at x y
      (ap (λ ls. slice_get ls p.first.at) (listed g events) ∙ p.first.is)
      (ap (λ ls. slice_get ls p.second.at) (listed g events) ∙ p.second.is)
      ei er (let le = p.second.after in omega arith)

pub reports_keep : ReportsKeepPromises
reports_keep c kinds events is =
    let g = group_of c kinds in
    record {
      listed = listed g events;
      comparable = lines_comparable g events;
      grows = lines_grow g events;
      submitted = learnt_were_submitted g events;
      own = learnt_hold_their_own g events (few_of c kinds is);
      largest = views_seen g events;
      one_history = one_history g (accepted_of g events);
      order = λ j k l x y update at submits lt.
          learnt_in_order_of_places g events j k l x y update.id at
          (submits_by_trace g events k x.instance update submits) lt;
      removed = λ place r object tags step shown at done stood listed holds.
          removed_shown g events place r object tags step shown at done stood listed
          (subst (λ ops. IsSome (get shown (record { replica = r; number = length ops + 1 }))) (ops_before g events place 0 r) holds);
      reads = marks_are_read g events;
      answers = answers_alike g events (report_lines g events) (answers_are_values g events);
      outcomes = outcomes_listed g events (few_of c kinds is);
      safe = reported c kinds events is;
    }
