-- The places of the events that were handed in, and those of the events that were accepted.
use Rattle.std.proofs.Common.{◌≡◌, ℕ, zero, suc, ◌+◌, ◌<◌, ◌≤◌, List, [], ◌∷◌, ◌++◌, length, take, reverse, get_or, slice_get, Option, Some, None, IsSome, Contains, refl, ap, sym, ◌∙◌, subst, arith, inl, inr}
use Rattle.std.proofs.lemmas.Bool.{cases_lt}
use Rattle.std.proofs.lemmas.List.{reverse-append, reverse-reverse, length-reverse, take_all, take_more, take-take, take-append-le}
use Rattle.std.proofs.lemmas.List.Elements.{Contains-push}
use Rattle.std.proofs.lemmas.Option.{same_Some, none-some, slice_get_within, get_or_from_slice_get}
use Rattle.la_set.specs.declared.update.UpdateId.{UpdateId}
use Rattle.la_set.specs.declared.update.Op.TheVariants.{Remove}
use Rattle.la_set.specs.Histories.{Histories, get}
use Rattle.la_set.specs.Inclusion.{IsSubset}
use Rattle.la_replica.specs.Messages.{group}
use Rattle.la_world.specs.declared.error.Refusal.{Refusal}
use Rattle.la_world.specs.declared.report.Line.{Line}
use Rattle.la_world.specs.declared.report.Line.TheVariants.{Done}
use Rattle.la_world.specs.declared.step.Did as step
use Rattle.la_world.specs.declared.step.Did.TheVariants as shown
use Rattle.la_world.specs.declared.step.Learnt.{Learnt}
use Rattle.la_world.specs.declared.step.Opening.{Opening}
use Rattle.la_world.specs.declared.step.Step.{Step}
use Rattle.la_world.specs.Groups.{Group, replicas}
use Rattle.la_world.specs.Events.{Event, submission_of}
use Rattle.la_world.specs.Trace.{Trace}
use Rattle.la_world.specs.Ballots.{opening_learnt}
use Rattle.la_node.specs.SecondVotes.{Submission}
use Rattle.la_world.specs.Submissions.{submission_by, submitted_ops}
use Rattle.la_world.specs.Views.{trace_view}
use Rattle.la_world.specs.Playing.{event_entry, trace}
use Rattle.la_world.specs.Learnings.{learning_of, learnt}
use Rattle.la_world.specs.Report.{refused, line_of, runs, runs_on, report_lines, trace_of, views}
use Rattle.la_world.specs.Promises.{IsSubmittedLater, WasLearnt, next_id, trace_before}
use Rattle.la_world.specs.Reading.{learnt_by_did, IsLearntAt, WasLearntBefore}
use Rattle.la_world.proofs.Asking.{becomes, done_by, line_of_place}
use Rattle.la_world.proofs.Lists.{contains_IsIn, IsIn_made}
use Rattle.la_world.proofs.Order.{in_order, learnt_still, learnt_submitted, removed_held}
use Rattle.la_world.proofs.Proposals.{stays_submitted}
use Rattle.la_world.proofs.Safe.{line_each}
use Rattle.la_world.proofs.Worlds.{learnings_in, learnings_shown}

-- the events of a list in the order of play that are accepted, the newest first
abbrev pub accepted_of : Group → List Event → List Event
accepted_of g events = (runs g (reverse events)).accepted

pub record Later (g : Group) (all before : List Event) : Type 0 where
  pub more : List Event
  pub is : all ≡ more ++ before

accepted_earlier : (g : Group) (es : List Event) (k : ℕ)
    → Later g (runs g es).accepted (accepted_of g (take k (reverse es)))
unfolding runs
accepted_earlier g [] k = record { more = []; is = sym (ap (λ xs. accepted_of g xs) (take_all k [] (omega arith))) }
accepted_earlier g (e ∷ es) k = elim (cases_lt (length es) k) [
  | inl all ↦
      let whole : take k (reverse (e ∷ es)) ≡ reverse (e ∷ es) =
      take_all k (reverse (e ∷ es)) (omega (arith, length-reverse (e ∷ es), all)) in
      record { more = []; is = sym (ap (accepted_of g) whole ∙ ap (λ xs. (runs g xs).accepted) (reverse-reverse (e ∷ es))) }
  | inr le ↦
      let same : take k (reverse (e ∷ es)) ≡ take k (reverse es) =
      ap (take k) (reverse-append (e ∷ []) es)
      ∙ take-append-le k (reverse es) (e ∷ []) (omega (arith, length-reverse es, le)) in
      subst (λ xs. Later g (runs g (e ∷ es)).accepted (accepted_of g xs)) (sym same)
      (go (refused g (trace g (runs g es).accepted) e) (accepted_earlier g es k))
]
  where
    go : (o : Option Refusal) → Later g (runs g es).accepted (accepted_of g (take k (reverse es)))
        → Later g (runs_on g (runs g es) e (trace g (runs g es).accepted) o).accepted
        (accepted_of g (take k (reverse es)))
    go None h = record { more = e ∷ h.more; is = ap (λ xs. e ∷ xs) h.is }
    go (Some name) h = h

-- those of a front come first
pub accepted_before : (g : Group) (events : List Event) (k : ℕ)
    → Later g (accepted_of g events) (accepted_of g (take k events))
accepted_before g events k =
    subst (λ xs. Later g (accepted_of g events) (accepted_of g (take k xs))) (reverse-reverse events)
    (accepted_earlier g (reverse events) k)

-- of a longer front
pub accepted_between : (g : Group) (events : List Event) (j k : ℕ) → j ≤ k
    → Later g (accepted_of g (take k events)) (accepted_of g (take j events))
accepted_between g events j k le =
    subst (λ xs. Later g (accepted_of g (take k events)) (accepted_of g xs)) (take-take j k events le)
    (accepted_before g (take k events) j)

-- an event that is accepted at its place comes next
pub accepted_next : (g : Group) (events : List Event) (k : ℕ) (d : Event) → slice_get events k ≡ Some d
    → refused g (trace_of g (take k events)) d ≡ None
    → accepted_of g (take (k + 1) events) ≡ d ∷ accepted_of g (take k events)
unfolding runs
accepted_next g events k d at allowed =
    ap (accepted_of g)
    (take_more events k d (slice_get_within events k d at)
    ∙ ap (λ z. take k events ++ z ∷ []) (get_or_from_slice_get events k d d at))
    ∙ ap (λ xs. (runs g xs).accepted) (reverse-append (take k events) (d ∷ []))
    ∙ ap (λ o. (runs_on g (runs g (reverse (take k events))) d (trace_of g (take k events)) o).accepted) allowed

-- ## What a line says

-- an event that was done was not refused, and its line is the definitions'
pub record IsDone (g : Group) (events : List Event) (k : ℕ) (d : Event) (s : Step) : Type 0 where
  pub allowed : refused g (trace_of g (take k events)) d ≡ None
  pub line : line_of g (trace_of g (take k events)) d ≡ Done s

pub was_done : (g : Group) (events : List Event) (k : ℕ) (d : Event) (s : Step) → slice_get events k ≡ Some d
    → slice_get (report_lines g events) k ≡ Some (Done s) → IsDone g events k d s
was_done g events k d s at done = go (refused g t d) refl (same_Some _ _ (sym (line_of_place g events k d at) ∙ done))
  where
    t : Trace
    t = trace_of g (take k events)

    go : (o : Option Refusal) → refused g t d ≡ o → becomes g t d o ≡ Done s → IsDone g events k d s
    go None is line = record { allowed = is; line = line }
    go (Some name) is line = absurd (none-some s (ap done_by line))

-- each line has its event
pub handed_in_at : (g : Group) (events : List Event) (k : ℕ) (line : Line) → slice_get (report_lines g events) k ≡ Some line
    → (d : Event) × (slice_get events k ≡ Some d)
handed_in_at g events k line at =
    let many : length (report_lines g events) ≡ length events =
    length-reverse (runs g (reverse events)).lines ∙ line_each g (reverse events) ∙ length-reverse events in
    there events k (omega (arith, many, slice_get_within (report_lines g events) k line at))
  where
    there : (xs : List Event) (k : ℕ) → k < length xs → (d : Event) × (slice_get xs k ≡ Some d)
    there [] k lt = absurd (omega arith)
    there (x ∷ xs) zero lt = (x, refl)
    there (x ∷ xs) (suc k) lt = there xs k (omega arith)

-- the event at this place was accepted, and submits the update with this id in instance i
pub record IsSubmittedAt (g : Group) (events : List Event) (steps : List Line) (place i : ℕ)
    (id : UpdateId) : Type 0 where
  pub event : Event
  pub handed_in : slice_get events place ≡ Some event
  pub step : Step
  pub done : slice_get steps place ≡ Some (Done step)
  pub submission : Submission
  pub submits : submission_by event (event_entry g (trace_before g events place) event).did
      ≡ Some submission
  pub instance : submission.instance ≡ i
  pub replica : id.replica ≡ submission.replica
  pub number : id.number
      ≡ length (submitted_ops (trace_before g events place) i submission.replica) + 1

-- ## A set that was learnt at a place

learnt_listed : (d : step.Did) (x : Learnt) → learnt_by_did d ≡ Some x → learnings_in d ≡ x ∷ []
learnt_listed (shown.Learnt l told outcome next) x e = ap (λ z. z ∷ []) (same_Some l x e)
learnt_listed (shown.Opened b) x e = absurd (none-some x e)
learnt_listed (shown.Held id) x e = absurd (none-some x e)
learnt_listed (shown.Answered reply) x e = absurd (none-some x e)
learnt_listed shown.Counted x e = absurd (none-some x e)
learnt_listed shown.Ignored x e = absurd (none-some x e)
learnt_listed (shown.Refined b) x e = absurd (none-some x e)
learnt_listed (shown.Took s) x e = absurd (none-some x e)
learnt_listed shown.Kept x e = absurd (none-some x e)
learnt_listed (shown.Replied answer) x e = absurd (none-some x e)

done_did : Line → List Learnt
done_did (Done s) = learnings_in s.did
done_did _ = []

placed : (b : Option Opening) (place : ℕ) (x : Learnt) → learning_of place b ≡ x ∷ [] → x.place ≡ place
placed None place x e = absurd (omega (arith, ap length e))
placed (Some b) place x e = ap (λ ls. (get_or ls 0 x).place) (sym e)

module _ (g : Group) (events : List Event) where
  -- it is among those that were learnt by then
  pub learnt_then : (j : ℕ) (x : Learnt) → IsLearntAt (report_lines g events) j x
      → Contains (learnt (trace g (accepted_of g (take (j + 1) events)))) x
  unfolding trace learnt done_did
  learnt_then j x h =
      let p = handed_in_at g events j (Done h.step) h.done in
      let d = p.0 in
      let was = was_done g events j d h.step p.1 h.done in
      subst (λ es. Contains (learnt (trace g es)) x) (sym (accepted_next g events j d p.1 was.allowed))
      (now d h.step was.line h.learnt)
    where
      t : Trace
      t = trace_of g (take j events)

      now : (d : Event) (s : Step) → line_of g t d ≡ Done s → learnt_by_did s.did ≡ Some x
          → Contains (learnt (trace g (d ∷ accepted_of g (take j events)))) x
      now d s line e =
          let did = (event_entry g t d).did in
          let listed : learning_of (length t) (opening_learnt did) ≡ x ∷ [] =
          sym (learnings_shown (replicas g) (length t) did) ∙ ap done_did line ∙ learnt_listed s.did x e in
          subst (λ ls. Contains (learnt t ++ ls) x) (sym listed) (Contains-push (learnt t) x)

  -- its place counts the events that were accepted before
  pub place_counts : (j : ℕ) (x : Learnt) → IsLearntAt (report_lines g events) j x → x.place ≡ length (trace_before g events j)
  unfolding done_did
  place_counts j x h =
      let p = handed_in_at g events j (Done h.step) h.done in
      let t = trace_before g events j in
      let did = (event_entry g t p.0).did in
      let was = was_done g events j p.0 h.step p.1 h.done in
      placed (opening_learnt did) (length t) x
      (sym (learnings_shown (replicas g) (length t) did) ∙ ap done_did was.line ∙ learnt_listed h.step.did x h.learnt)

  -- and it stays
  pub learnt_at_end : (j : ℕ) (x : Learnt) → IsLearntAt (report_lines g events) j x → Contains (learnt (trace_of g events)) x
  learnt_at_end j x h =
      let p = accepted_before g events (j + 1) in
      subst (λ es. Contains (learnt (trace g es)) x) (sym p.is)
      (learnt_still g p.more (accepted_of g (take (j + 1) events)) x (learnt_then j x h))

  -- what is submitted at a later place was not yet submitted then
  submitted_after : (j k : ℕ) (x : Learnt) (id : UpdateId) → j < k
      → IsSubmittedAt g events (report_lines g events) k x.instance id
      → IsSubmittedLater (trace g (accepted_of g (take (j + 1) events))) x.instance id
  submitted_after j k x id lt h =
      let i = x.instance in
      let p = accepted_between g events (j + 1) k (omega arith) in
      let early = accepted_of g (take (j + 1) events) in
      let fewer : length (submitted_ops (trace g early) i id.replica) ≤ length
      (submitted_ops (trace_before g events k) i id.replica) =
      subst (λ es. length (submitted_ops (trace g early) i id.replica) ≤ length (submitted_ops (trace g es) i id.replica))
      (sym p.is) (stays_submitted g p.more early i id.replica) in
      let number : id.number ≡ length (submitted_ops (trace_before g events k) i id.replica) + 1 =
      h.number ∙ ap (λ r. length (submitted_ops (trace_before g events k) i r) + 1) (sym h.replica) in
      omega (arith, fewer, number)

  pub learnt_in_order_of_places : (j k l : ℕ) (x y : Learnt) (id : UpdateId) → IsLearntAt (report_lines g events) j x
      → IsSubmittedAt g events (report_lines g events) k x.instance id → j < k → IsLearntAt (report_lines g events) l y
      → x.instance ≡ y.instance → IsSome (get y.updates id) → IsSubset x.updates y.updates
  learnt_in_order_of_places j k l x y id at submitted_at lt was same holds =
      let until = accepted_of g (take (j + 1) events) in
      in_order g (accepted_of g events) until x y id (learnt_at_end j x at) (learnt_at_end l y was) same
      (learnt_submitted g until x (learnt_then j x at)) (submitted_after j k x id lt submitted_at) holds

-- ## Removes

module _ (g : Group) (events : List Event) where
  learnt_before : (place : ℕ) (tag : UpdateId) → WasLearntBefore (report_lines g events) place tag
      → WasLearnt (trace g (accepted_of g (take place events))) tag
  learnt_before place tag h =
      let p = accepted_between g events (h.earlier + 1) place (let lt = h.before in omega arith) in
      let then = learnt_then g events h.earlier h.learnt_as h.was in
      record {
        learnt_as = h.learnt_as;
        was =
            subst (λ es. Contains (learnt (trace g es)) h.learnt_as) (sym p.is)
            (learnt_still g p.more (accepted_of g (take (h.earlier + 1) events)) h.learnt_as then);
        of_objects = h.of_objects;
        holds = h.holds;
      }

  pub removed_shown : (place r object : ℕ) (tags : List UpdateId) (step : Step) (trace_view : Histories)
      → slice_get events place ≡ Some (submission_of r object (Remove tags))
      → slice_get (report_lines g events) place ≡ Some (Done step)
      → ((tag : UpdateId) → Contains tags tag → WasLearntBefore (report_lines g events) place tag)
      → Contains (views g (trace_of g events)) trace_view
      → IsSome (get trace_view (next_id (trace_before g events place) r)) → (tag : UpdateId) → Contains tags tag
      → IsSome (get trace_view tag)
  removed_shown place r object tags step shown at done stood listed holds tag named =
      let e = submission_of r object (Remove tags) in
      let was = was_done g events place e step at done in
      let p = accepted_before g events (place + 1) in
      let all : accepted_of g events ≡ p.more ++ e ∷ accepted_of g (take place events) =
      p.is ∙ ap (λ es. p.more ++ es) (accepted_next g events place e at was.allowed) in
      let q =
      IsIn_made (trace_view (trace_of g events)) (group (replicas g)) shown
      (contains_IsIn (views g (trace_of g events)) shown listed) in
      let same : trace_view (trace g (p.more ++ e ∷ accepted_of g (take place events))) q.0 ≡ shown =
      sym (ap (λ es. trace_view (trace g es) q.0) all) ∙ q.1 in
      subst (λ s. IsSome (get s tag)) same
      (removed_held g (accepted_of g (take place events)) p.more r object tags q.0 (λ u c. learnt_before place u (stood u c))
      (subst (λ s. IsSome (get s (next_id (trace_before g events place) r))) (sym same) holds) tag named)
