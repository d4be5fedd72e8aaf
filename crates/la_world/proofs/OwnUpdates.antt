-- A learnt set holds what was submitted by its place, and of its own replica all that had been
-- submitted when the replica last opened a ballot that is no refinement: by the lines of a report.
use Rattle.std.proofs.Common.{◌≡◌, ℕ, zero, suc, ◌+◌, ◌<◌, ◌≤◌, ◌==◌, false, List, [], ◌∷◌, ◌++◌, length, take, reverse, slice_get, Some, refl, ap, ap₂, sym, ◌∙◌, subst, subst₂, arith, inl, inr, eq-eqb}
use Rattle.std.proofs.lemmas.Bool.{cases_lt, cond-true}
use Rattle.std.proofs.lemmas.List.{take-take}
use Rattle.std.proofs.lemmas.Option.{same_Some, none-some}
use Rattle.la_set.specs.declared.update.Update.{Update}
use Rattle.la_set.specs.ObjectOps.{object_op_of}
use Rattle.la_set.specs.Histories.{history, object_op_number, ContainsUpdate}
use Rattle.la_set.specs.Inclusion.{IsSubset}
use Rattle.la_set.proofs.lemmas.Prefixes.{IsPrefix}
use Rattle.la_set.proofs.lemmas.SetHistories.{history_past}
use Rattle.la_set.proofs.lemmas.Inclusions.{object_op-contains, contains-object_op, object_op_number-reads}
use Rattle.la_world.specs.declared.report.Line.{Line}
use Rattle.la_world.specs.declared.report.Line.TheVariants.{Done}
use Rattle.la_world.specs.declared.step.Did as step
use Rattle.la_world.specs.declared.step.Learnt.{Learnt}
use Rattle.la_world.specs.declared.step.Opening.{Opening}
use Rattle.la_world.specs.declared.step.Step.{Step}
use Rattle.la_world.specs.Groups.{Group, replicas}
use Rattle.la_world.specs.Events.{Event}
use Rattle.la_world.specs.Trace as did
use Rattle.la_world.specs.Trace.{Did, Entry, Trace}
use Rattle.la_world.specs.Ballots.{opened_by, opening_learnt, only, ballots}
use Rattle.la_world.specs.Submissions.{submitted_ops, whole, is_refined, taken_at, taken}
use Rattle.la_world.specs.Playing.{event_entry, trace}
use Rattle.la_world.specs.Learnings.{learning}
use Rattle.la_world.specs.Report.{shown_as, report_lines, trace_of}
use Rattle.la_world.specs.Reading.{learnt_by_did, IsLearntAt, ops_at, Submits, taker_in, IsOpenedAt}
use Rattle.la_world.specs.Headline.{LearntWereSubmitted, LearntHoldTheirOwn}
use Rattle.la_world.proofs.Lists.{IsIn, AllIn_at}
use Rattle.la_world.proofs.EventCases.{step}
use Rattle.la_world.proofs.Quorum.{ballots_more, opened_in, event_learns}
use Rattle.la_world.proofs.Growth.{last_grows}
use Rattle.la_world.proofs.Traces.{holds}
use Rattle.la_world.proofs.SubmittedBound.{prefix_same, history-whole}
use Rattle.la_world.proofs.TakenUpdates.{has_taken}
use Rattle.la_world.proofs.Order.{learnt_submitted}
use Rattle.la_world.proofs.Openings.{only_same}
use Rattle.la_world.proofs.InGroup.{IsOfGroup, grouped}
use Rattle.la_world.proofs.Safe.{runs_legal}
use Rattle.la_world.proofs.Asking.{done_by}
use Rattle.la_world.proofs.Places.{accepted_of, accepted_between, accepted_next, was_done, handed_in_at, learnt_then}
use Rattle.la_world.proofs.SubmissionLines.{ops_before, found, listed}

-- ## Fronts

pub get_taken : {A : Type 0} (n k : ℕ) (xs : List A) (x : A) → slice_get (take n xs) k ≡ Some x
    → (k < n) × (slice_get xs k ≡ Some x)
get_taken zero k xs x e = absurd (none-some x e)
get_taken (suc n) k [] x e = absurd (none-some x e)
get_taken (suc n) zero (y ∷ xs) x e = (omega arith, e)
get_taken (suc n) (suc k) (y ∷ xs) x e = let p = get_taken n k xs x e in (omega (arith, p.0), p.1)

get_in_front : {A : Type 0} (n k : ℕ) (xs : List A) (x : A) → k < n → slice_get xs k ≡ Some x
    → slice_get (take n xs) k ≡ Some x
get_in_front zero k xs x lt e = absurd (omega arith)
get_in_front (suc n) k [] x lt e = absurd (none-some x e)
get_in_front (suc n) zero (y ∷ xs) x lt e = e
get_in_front (suc n) (suc k) (y ∷ xs) x lt e = get_in_front n k xs x (omega arith) e

-- ## What was submitted

-- what is in all that was submitted, by its number
pub whole_number : (t : Trace) (i : ℕ) (u : Update) → ContainsUpdate (whole t i) u
    → object_op_number (submitted_ops t i u.id.replica) u.id.number ≡ Some (object_op_of u)
whole_number t i u h =
    object_op_number-reads (history (whole t i) r) (submitted_ops t i r) begins u.id.number (object_op_of u)
    (object_op-contains (whole t i) u h)
  where
    r : ℕ
    r = u.id.replica

    begins : IsPrefix (history (whole t i) r) (submitted_ops t i r)
    begins = elim (cases_lt r 8) [
      | inl lt ↦ subst (λ ds. IsPrefix ds (submitted_ops t i r)) (sym (history-whole t i r lt)) (prefix_same (submitted_ops t i r))
      | inr le ↦ subst (λ ds. IsPrefix ds (submitted_ops t i r)) (sym (history_past (whole t i) r le)) (record { front = refl })
    ]

module _ (g : Group) (events : List Event) where
  abbrev steps : List Line
  steps = report_lines g events

  pub learnt_were_submitted : LearntWereSubmitted events (report_lines g events)
  learnt_were_submitted place x u at holds =
      go u.id.number refl
      (whole_number (trace g until) i u (learnt_submitted g until x (learnt_then g events place x at) u holds))
    where
      i : ℕ
      i = x.instance

      r : ℕ
      r = u.id.replica

      n : ℕ
      n = place + 1

      until : List Event
      until = accepted_of g (take n events)

      go : (m : ℕ) → u.id.number ≡ m → object_op_number (submitted_ops (trace g until) i r) m ≡ Some (object_op_of u)
          → (k : ℕ) × (k ≤ place) × Submits events (report_lines g events) k i u
      go zero is e = absurd (none-some (object_op_of u) e)
      go (suc j) is e =
          let p =
          found (take n events) (take n steps) i r j (object_op_of u)
          (ap (λ ds. slice_get ds j) (ops_before g events n i r) ∙ e) in
          let q = get_taken n p.place events p.event p.handed_in in
          let w = get_taken n p.place steps p.line p.became in
          let le : p.place ≤ n = omega (arith, q.0) in
          let before : j ≡ length (ops_at (take p.place events) (take p.place steps) i r) =
          p.before
          ∙ ap₂ (λ es ls. length (ops_at es ls i r)) (take-take p.place n events le)
          (take-take p.place n steps le) in (
            p.place,
            omega (arith, q.0),
            record {
              event = p.event;
              handed_in = q.1;
              line = p.line;
              became = w.1;
              submits = p.submits;
              number = omega (arith, is, before);
            },
          )

  -- what is submitted before a place stands under its number in all that was submitted by then
  stands_under : (k n i : ℕ) (u : Update) → Submits events (report_lines g events) k i u → k < n
      → object_op_number (submitted_ops (trace_of g (take n events)) i u.id.replica) u.id.number ≡ Some (object_op_of u)
  stands_under k n i u s lt =
      let r = u.id.replica in
      let all = submitted_ops (trace_of g (take n events)) i r in
      let d = object_op_of u in
      let le : k ≤ n = omega arith in
      let before = length (ops_at (take k events) (take k steps) i r) in
      let same : length (ops_at (take k (take n events)) (take k (take n steps)) i r) ≡ before =
      ap₂ (λ es ls. length (ops_at es ls i r)) (take-take k n events le) (take-take k n steps le) in
      let there : slice_get all before ≡ Some d =
      subst₂ (λ ds m. slice_get ds m ≡ Some d) (ops_before g events n i r) same
      (listed (take n events) (take n steps) i r k d s.event s.line (get_in_front n k events s.event lt s.handed_in)
      (get_in_front n k steps s.line lt s.became) s.submits) in
      let number : suc before ≡ u.id.number = omega (arith, s.number) in
      subst (λ m. object_op_number all m ≡ Some d) number there

-- ## The ballot that takes it

taker_opened : (n place : ℕ) (d : Did) (b : Opening) → taker_in (shown_as n place d) ≡ Some b
    → (opened_by d ≡ Some b) × (is_refined d ≡ false)
taker_opened n place (did.Opened c) b e = (e, refl)
taker_opened n place (did.Learnt c next) b e = (e, refl)
taker_opened n place (did.Held id) b e = absurd (none-some b e)
taker_opened n place (did.Answered reply) b e = absurd (none-some b e)
taker_opened n place did.Counted b e = absurd (none-some b e)
taker_opened n place did.Ignored b e = absurd (none-some b e)
taker_opened n place (did.Refined c) b e = absurd (none-some b e)
taker_opened n place (did.Took s) b e = absurd (none-some b e)
taker_opened n place did.Kept b e = absurd (none-some b e)
taker_opened n place (did.Replied answer) b e = absurd (none-some b e)

learnt_ended : (n place : ℕ) (d : Did) (x : Learnt) → learnt_by_did (shown_as n place d) ≡ Some x
    → (c : Opening) × (opening_learnt d ≡ Some c) × (learning place c ≡ x)
learnt_ended n place (did.Learnt c next) x e = (c, refl, same_Some (learning place c) x e)
learnt_ended n place (did.Opened c) x e = absurd (none-some x e)
learnt_ended n place (did.Held id) x e = absurd (none-some x e)
learnt_ended n place (did.Answered reply) x e = absurd (none-some x e)
learnt_ended n place did.Counted x e = absurd (none-some x e)
learnt_ended n place did.Ignored x e = absurd (none-some x e)
learnt_ended n place (did.Refined c) x e = absurd (none-some x e)
learnt_ended n place (did.Took s) x e = absurd (none-some x e)
learnt_ended n place did.Kept x e = absurd (none-some x e)
learnt_ended n place (did.Replied answer) x e = absurd (none-some x e)

-- a ballot that is no refinement takes all that was submitted
taken_now : (x : Entry) (t : Trace) (b : Opening) → opened_by x.did ≡ Some b → is_refined x.did ≡ false
    → taken (x ∷ t) b.instance b.replica b.ballot ≡ submitted_ops (x ∷ t) b.instance b.replica
unfolding taken
taken_now x t b e plain =
    let i = b.instance in
    let r = b.replica in
    let all = submitted_ops (x ∷ t) i r in
    ap₂ (λ v w. taken_at b.ballot v w all (taken t i r)) (ap (only i r) e ∙ only_same b) plain
    ∙ cond-true (b.ballot == b.ballot) all (taken t i r b.ballot) (eq-eqb b.ballot b.ballot refl)

pub ballots_still : (g : Group) (more events : List Event) (i r : ℕ) (b : Opening)
    → IsIn b (ballots (trace g events) i r) → IsIn b (ballots (trace g (more ++ events)) i r)
unfolding trace
ballots_still g [] events i r b h = h
ballots_still g (e ∷ more) events i r b h =
    let t = trace g (more ++ events) in
    ballots_more (event_entry g t e) t i r b (ballots_still g more events i r b h)

module _ (g : Group) (events : List Event) where
  -- what an accepted event at a place did
  record IsPlayed (k : ℕ) (d : step.Did) : Type 0 where
    event : Event
    next : accepted_of g (take (k + 1) events) ≡ event ∷ accepted_of g (take k events)
    did : shown_as (replicas g) (length (trace_of g (take k events))) (event_entry g (trace_of g (take k events)) event).did
        ≡ d

  played : (k : ℕ) (s : Step) → slice_get (report_lines g events) k ≡ Some (Done s) → IsPlayed k s.did
  played k s done =
      let p = handed_in_at g events k (Done s) done in
      let was = was_done g events k p.0 s p.1 done in
      record {
        event = p.0;
        next = accepted_next g events k p.0 p.1 was.allowed;
        did = ap (λ (z : Step). z.did) (same_Some _ s (ap done_by was.line));
      }

  record Takes (b : Opening) (until : List Event) : Type 0 where
    opened : IsIn b (ballots (trace g until) b.instance b.replica)
    all : b.replica < 8 → history b.updates b.replica ≡ submitted_ops (trace g until) b.instance b.replica

  takes : (began : ℕ) (b : Opening) → IsOpenedAt (report_lines g events) began b
      → Takes b (accepted_of g (take (began + 1) events))
  unfolding trace
  takes began b h = subst (Takes b) (sym p.next) record { opened = is_in; all = λ lt. has_taken g (p.event ∷ before) b.instance b.replica lt b is_in ∙ taken_now x t b is.0 is.1 }
    where
      before : List Event
      before = accepted_of g (take began events)

      t : Trace
      t = trace g before

      p : IsPlayed began h.step.did
      p = played began h.step h.done

      x : Entry
      x = event_entry g t p.event

      is : (opened_by x.did ≡ Some b) × (is_refined x.did ≡ false)
      is = taker_opened (replicas g) (length t) x.did b (ap taker_in p.did ∙ h.opened)

      is_in : IsIn b (ballots (trace g (p.event ∷ before)) b.instance b.replica)
      is_in = opened_in x t b is.0

  -- a set that is learnt later contains it
  contains_ballot : (began place : ℕ) (b : Opening) (x : Learnt) → IsOpenedAt (report_lines g events) began b
      → IsLearntAt (report_lines g events) place x → began < place → b.instance ≡ x.instance → b.replica ≡ x.replica
      → IsSubset b.updates x.updates
  contains_ballot began place b x opened at lt ei er =
      subst (λ (y : Learnt). IsSubset b.updates y.updates) ended.2 within
    where
      until : List Event
      until = accepted_of g (take place events)

      t : Trace
      t = trace g until

      p : IsPlayed place at.step.did
      p = played place at.step at.done

      ended : (c : Opening) × (opening_learnt (event_entry g t p.event).did ≡ Some c) × (learning (length t) c ≡ x)
      ended = learnt_ended (replicas g) (length t) (event_entry g t p.event).did x (ap learnt_by_did p.did ∙ at.learnt)

      c : Opening
      c = ended.0

      there : IsIn b (ballots t b.instance b.replica)
      there =
          let q = accepted_between g events (began + 1) place (omega arith) in
          subst (λ es. IsIn b (ballots (trace g es) b.instance b.replica)) (sym q.is)
          (ballots_still g q.more (accepted_of g (take (began + 1) events)) b.instance b.replica b
          (takes began b opened).opened)

      here : IsIn b (ballots t c.instance c.replica)
      here =
          subst₂ (λ i r. IsIn b (ballots t i r)) (ei ∙ sym (ap (λ (y : Learnt). y.instance) ended.2))
          (er ∙ sym (ap (λ (y : Learnt). y.replica) ended.2)) there

      within : IsSubset b.updates c.updates
      within =
          let x = event_entry g t p.event in
          let last = event_learns g t x.event x.delivered x.did (step g t p.event).cases c ended.1 in
          subst (λ (z : Opening). IsSubset b.updates z.updates) last.is_last
          (last_grows t c.instance c.replica b ((holds g until).growing c.instance c.replica) here)

  opened_in_group : (began : ℕ) (b : Opening) → IsOpenedAt (report_lines g events) began b → b.replica < replicas g
  opened_in_group began b opened =
      let until = accepted_of g (take (began + 1) events) in
      let all = (grouped g until (runs_legal g (reverse (take (began + 1) events)))).ballots b.instance b.replica in
      (AllIn_at (λ c. IsOfGroup g b.instance b.replica) (ballots (trace g until) b.instance b.replica) b all
      (takes began b opened).opened).replica

  pub learnt_hold_their_own : replicas g ≤ 8 → LearntHoldTheirOwn events (report_lines g events)
  learnt_hold_their_own few began place k b x u opened at lt ei er s mine le =
      let r = u.id.replica in
      let t = trace_of g (take (began + 1) events) in
      let own : r ≡ b.replica = mine ∙ sym er in
      let known : b.replica < 8 = omega (arith, opened_in_group began b opened, few) in
      let all : history b.updates r ≡ submitted_ops t x.instance r =
      ap (history b.updates) own ∙ (takes began b opened).all known ∙ ap₂ (submitted_ops t) ei (sym own) in
      let number = stands_under g events k (began + 1) x.instance u s (omega arith) in
      contains_ballot began place b x opened at lt ei er u
      (contains-object_op b.updates u (ap (λ ds. object_op_number ds u.id.number) all ∙ number))
