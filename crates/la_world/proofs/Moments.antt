-- What replicas that are together keep over all moments: what the events promise that their calls are.
use Rattle.std.proofs.Common.{◌≡◌, inl, inr, ℕ, zero, suc, ◌<◌, ◌==◌, ◌&&◌, Bool, true, false, cond, List, []}
use Rattle.std.proofs.Common.{◌∷◌, ◌++◌, length, map, drop, slice_get, Contains, Option, Some, None, option_map}
use Rattle.std.proofs.Common.{option_and_then, ◌⊎◌, refl, sym, ap, ap₂, subst, subst₂, ◌∙◌, append-nil, arith, ne_eqb}
use Rattle.std.specs.Prelude.{IsSome}
use Rattle.std.proofs.lemmas.List.FromFn.{length-map-range_with_len}
use Rattle.std.proofs.lemmas.Option.{none-some, same_Some, slice_get_within}
use Rattle.la_set.specs.declared.update.UpdateId.{UpdateId}
use Rattle.la_set.specs.ObjectOps.{ObjectOp}
use Rattle.la_set.specs.Histories.{Histories, ContainsUpdate, history, empty, get, object_op_number}
use Rattle.la_set.specs.Inclusion.{IsSubset, AreComparable}
use Rattle.la_set.proofs.lemmas.Inclusions.{contains-object_op, subset-refl, subset-trans}
use Rattle.la_commit.specs.declared.outcome.Outcome.{Outcome}
use Rattle.la_commit.specs.declared.outcome.Outcome.TheVariants.{Commit}
use Rattle.la_commit.specs.Instances.{second_instance}
use Rattle.la_commit.specs.Outcomes.{value_of, is_commit, outcome_of}
use Rattle.la_object.specs.Objects.{meaning}
use Rattle.la_object.specs.Shelves.{updates_at}
use Rattle.la_replica.specs.declared.instance.Instance.{Instance}
use Rattle.la_replica.specs.ReplicaState.{ReplicaState, learnt_of}
use Rattle.la_node.specs.declared.config.Config.{Config}
use Rattle.la_node.specs.Calls.{NodeCall, Submitted, Proposed, Received}
use Rattle.la_node.specs.Nodes.{returned_by}
use Rattle.la_node.specs.SecondVotes.{Submission}
use Rattle.la_node.proofs.lemmas.SecondVotes.{second_vote_in_is}
use Rattle.la_world.specs.declared.step.Learnt.{Learnt}
use Rattle.la_world.specs.declared.step.Opening.{Opening}
use Rattle.la_world.specs.Ballots.{newest_of, opening_learnt, ballots, round}
use Rattle.la_world.specs.Calls.{views_of, decision_by}
use Rattle.la_world.specs.Events.{Event, Past, Submit, Deliver, Decide, Ask}
use Rattle.la_world.specs.Groups.{Group, replicas, instances}
use Rattle.la_world.specs.Headline.{IsStrictSubset}
use Rattle.la_world.specs.Learnings.{learning_of, learnt}
use Rattle.la_world.specs.LiveGroups.{LearntSet, LiveGroup, Reaches, live_group_of, learnt_set_of}
use Rattle.la_world.specs.LiveGroups.{StandsForEvents, live_event, AreEventsOf, decisions_of}
use Rattle.la_world.specs.Moments.{GroupMoment, op_submitted, ops_submitted, IsStillToCome, id_to_come}
use Rattle.la_world.specs.Moments.{IsShownThen, NothingWaits, NotedAreComparable, NotedGrow, ShownAreOneHistory}
use Rattle.la_world.specs.Moments.{ViewsOnlyGrow, ViewsAreLargestThen, ShownWereSubmitted, NotedHoldTheirOwn}
use Rattle.la_world.specs.Moments.{ShownAreInOrder, MarksAreCurrent, RemovedAreWithIt, IsSafeOver}
use Rattle.la_world.specs.Moments.{OutcomesNeverChange, ViewsAnswerAlike, MomentsKeepAll, TogetherKeepAll}
use Rattle.la_world.specs.Moments.{TogetherKeepAllOfEvents, LiveGroupsKeepAllOver}
use Rattle.la_world.specs.Outcomes.{decision_of}
use Rattle.la_world.specs.Playing.{event_entry, trace}
use Rattle.la_world.specs.Promises.{IsSubmittedLater, GroupKeepsAll}
use Rattle.la_world.specs.ReplicaStates.{proposer_state, instance_of, replica_state}
use Rattle.la_world.specs.Submissions.{second_vote_after, submission_by, object_op_in, submitted_ops, whole}
use Rattle.la_world.specs.Together.{AreSomeInOrder}
use Rattle.la_world.specs.Trace.{Entry, Trace}
use Rattle.la_world.specs.Views.{seen, trace_view}
use Rattle.la_world.proofs.lemmas.Letters.{mapped_has}
use Rattle.la_world.proofs.Chains.{learnt_comparable}
use Rattle.la_world.proofs.EventCases.{step}
use Rattle.la_world.proofs.Growth.{last_grows}
use Rattle.la_world.proofs.GrowingViews.{views_grow}
use Rattle.la_world.proofs.LargestViews.{IsKnown, all_known, views_largest, empty_least}
use Rattle.la_world.proofs.LearntOrder.{learnt_grow}
use Rattle.la_world.proofs.Lists.{IsIn, AllIn_at, IsIn_get, IsIn_contains, contains_IsIn, IsIn_place}
use Rattle.la_world.proofs.Lists.{in_either, get_made}
use Rattle.la_world.proofs.LiveGroups.{known, is_state, groups_stand, group_keeps, same_group, comes_later}
use Rattle.la_world.proofs.OneReplicaSteps.{get_instance}
use Rattle.la_world.proofs.Order.{held_within, none_later, learnt_submitted, learnt_still}
use Rattle.la_world.proofs.Outcomes.{listed_by}
use Rattle.la_world.proofs.OwnHistories.{and_rest}
use Rattle.la_world.proofs.OwnUpdates.{whole_number, ballots_still}
use Rattle.la_world.proofs.Quorum.{event_learns}
use Rattle.la_world.proofs.Returned.{returned_is}
use Rattle.la_world.proofs.ShownLater.{learnt_seen}
use Rattle.la_world.proofs.Staying.{outcomes_stay}
use Rattle.la_world.proofs.Together.{some_same, some_at, some_places}
use Rattle.la_world.proofs.Traces.{holds, own}

-- ## What calls submit

not_of : (r : ℕ) (o : Option Submission) → ((s : Submission) → o ≡ Some s → s.instance ≡ 0 → ⊥)
    → object_op_in 0 r o ≡ []
not_of r None other = refl
not_of r (Some s) other =
    ap (λ b. cond (b && (s.replica == r)) (s.object_op ∷ []) []) (ne_eqb s.instance 0 (other s refl))

second_votes : (r : ℕ) (o : Option Opening) → object_op_in 0 r (second_vote_after o) ≡ []
second_votes r None = refl
second_votes r (Some b) =
    not_of r (second_vote_after (Some b)) (λ s e zeroth.
    let is = (second_vote_in_is b.instance b.replica b.updates s e).1 in omega (arith, is, zeroth))

no_ops : (b : Bool) → (let none : List ObjectOp = [] in cond b none none ≡ none)
no_ops true = refl
no_ops false = refl

module _ (r : ℕ) where
  -- what an event submits in instance 0 that is this call
  one_op : (g : Group) (t : Trace) (q number : ℕ) (call : NodeCall)
      → (let e = live_event q number call in
      object_op_in 0 r (submission_by e (event_entry g t e).did) ≡ cond (q == r) (op_submitted call) [])
  one_op g t q number (Submitted d) = refl
  one_op g t q number (Proposed k value) =
      let e = Decide q k value in
      not_of r (submission_by e (event_entry g t e).did)
      (λ s is zeroth. omega (arith, ap (λ (z : Submission). z.instance) (same_Some _ s is), zeroth))
      ∙ sym (no_ops (q == r))
  one_op g t q number (Received m) =
      second_votes r (opening_learnt (event_entry g t (Deliver number)).did) ∙ sym (no_ops (q == r))

  pub ops_are : (c : Config) (calls : List (ℕ × NodeCall)) (events : Past) → AreEventsOf calls events
      → submitted_ops (trace (live_group_of c) events) 0 r ≡ ops_submitted r calls
  unfolding trace submitted_ops
  ops_are c [] [] are = refl
  ops_are c [] (e ∷ events) are = absurd are
  ops_are c (call ∷ calls) [] are = absurd are
  ops_are c (call ∷ calls) (e ∷ events) ((number, same), are) =
      let g = live_group_of c in
      let t = trace g events in
      ap₂ (λ xs ys. xs ++ ys) (ops_are c calls events are)
      (ap (λ e. object_op_in 0 r (submission_by e (event_entry g t e).did)) same
      ∙ one_op g t call.0 number call.1)

-- ## Proposals

proposal_in : Event → Option (ℕ × NodeCall)
proposal_in (Decide r k value) = Some (r, Proposed k value)
proposal_in (Submit r d) = None
proposal_in (Deliver number) = None
proposal_in (Ask r object query) = None

same_proposal : (q number : ℕ) (call : NodeCall) (r k value : ℕ) → live_event q number call ≡ Decide r k value
    → (let x : ℕ × NodeCall = (q, call) in let y : ℕ × NodeCall = (r, Proposed k value) in x ≡ y)
unfolding proposal_in
same_proposal q number (Submitted d) r k value e = absurd (none-some (r, Proposed k value) (ap proposal_in e))
same_proposal q number (Proposed j other) r k value e =
    same_Some (q, Proposed j other) (r, Proposed k value) (ap proposal_in e)
same_proposal q number (Received m) r k value e = absurd (none-some (r, Proposed k value) (ap proposal_in e))

proposed_by : (calls : List (ℕ × NodeCall)) (events : Past) (r k value : ℕ) → AreEventsOf calls events
    → IsIn (Decide r k value) events → IsIn {A = ℕ × NodeCall} (r, Proposed k value) calls
proposed_by [] [] r k value are h = absurd h
proposed_by [] (e ∷ events) r k value are h = absurd are
proposed_by (call ∷ calls) [] r k value are h = absurd are
proposed_by (call ∷ calls) (e ∷ events) r k value ((number, same), are) (inl is) =
    inl (same_proposal call.0 number call.1 r k value (sym same ∙ is))
proposed_by (call ∷ calls) (e ∷ events) r k value ((number, same), are) (inr h) =
    inr (proposed_by calls events r k value are h)

called_proposal : (calls : List (ℕ × NodeCall)) (events : Past) (r k value : ℕ) → AreEventsOf calls events
    → Contains events (Decide r k value) → Contains calls (r, Proposed k value)
called_proposal calls events r k value are has =
    IsIn_contains calls (r, Proposed k value)
    (proposed_by calls events r k value are (contains_IsIn events (Decide r k value) has))

-- ## Traces, and one that goes on

views_grow_on : (g : Group) (newer events : List Event) (r : ℕ)
    → IsSubset (trace_view (trace g events) r) (trace_view (trace g (newer ++ events)) r)
views_grow_on g [] events r = subset-refl _
views_grow_on g (e ∷ newer) events r =
    subset-trans (trace_view (trace g events) r) (trace_view (trace g (newer ++ events)) r)
    (trace_view (trace g (e ∷ newer ++ events)) r) (views_grow_on g newer events r)
    (views_grow g (newer ++ events) e r)

newest_among : (i r : ℕ) (bs : List Opening)
    → IsIn (newest_of i r bs) bs ⊎ ((newest_of i r bs).updates ≡ empty)
newest_among i r [] = inr refl
newest_among i r (b ∷ bs) = inl (inl refl)

-- the last ballot's set lies in that of each later one
rounds_grow : (g : Group) (newer events : List Event) (i r : ℕ)
    → IsSubset (round (trace g events) i r).updates (round (trace g (newer ++ events)) i r).updates
unfolding round
rounds_grow g newer events i r =
    let t = trace g events in
    let later = trace g (newer ++ events) in
    elim (newest_among i r (ballots t i r)) [
      | inl among ↦
          last_grows later i r (newest_of i r (ballots t i r)) ((holds g (newer ++ events)).growing i r)
          (ballots_still g newer events i r (newest_of i r (ballots t i r)) among)
      | inr none ↦
          subst (λ s. IsSubset s (newest_of i r (ballots later i r)).updates) (sym none)
          (empty_least (newest_of i r (ballots later i r)).updates)
    ]

-- a set that is learnt was learnt before, or contains that of the last ballot before
learnt_since : (g : Group) (newer events : List Event) (l : Learnt) → IsIn l (learnt (trace g (newer ++ events)))
    → IsIn l (learnt (trace g events)) ⊎ IsSubset (round (trace g events) l.instance l.replica).updates l.updates
unfolding trace learnt
learnt_since g [] events l is = inl is
learnt_since g (e ∷ newer) events l is =
    elim (in_either l (learnt t) (learning_of (length t) (opening_learnt x.did)) is) [
      | inl old ↦ learnt_since g newer events l old
      | inr new ↦ inr (now (opening_learnt x.did) refl new)
    ]
  where
    t : Trace
    t = trace g (newer ++ events)

    x : Entry
    x = event_entry g t e

    now : (o : Option Opening) → opening_learnt x.did ≡ o → IsIn l (learning_of (length t) o)
        → IsSubset (round (trace g events) l.instance l.replica).updates l.updates
    now None f new = absurd new
    now (Some b) f (inr none) = absurd none
    now (Some b) f (inl same) =
        let last = event_learns g t x.event x.delivered x.did (step g t e).cases b f in
        subst (λ (z : Learnt). IsSubset (round (trace g events) z.instance z.replica).updates z.updates) same
        (subst (λ (z : Opening). IsSubset (round (trace g events) b.instance b.replica).updates z.updates)
        last.is_last (rounds_grow g newer events b.instance b.replica))

-- ### Sets of instance 0

-- one that was learnt, or empty
IsOne : Trace → Histories → Type 0
IsOne t s = (s ≡ empty) ⊎ IsKnown t s

view_one : (g : Group) (events : List Event) (r : ℕ) → IsOne (trace g events) (trace_view (trace g events) r)
unfolding IsOne
view_one g events r =
    let t = trace g events in
    elim (views_largest g events r).is_one [
      | inl has ↦
          inr (AllIn_at (IsKnown t) (seen t r) (trace_view t r) (all_known g events r)
          (contains_IsIn (seen t r) (trace_view t r) has))
      | inr none ↦ inl none.1
    ]

still_one : (g : Group) (newer events : List Event) (s : Histories) → IsOne (trace g events) s
    → IsOne (trace g (newer ++ events)) s
unfolding IsOne
still_one g newer events s (inl none) = inl none
still_one g newer events s (inr k) =
    let l = k.learnt_as in
    let all = learnt (trace g (newer ++ events)) in
    inr record {
      learnt_as = l;
      was =
          contains_IsIn all l
          (learnt_still g newer events l (IsIn_contains (learnt (trace g events)) l k.was));
      of_objects = k.of_objects;
      set = k.set;
    }

one_chain : (g : Group) (events : List Event) (s u : Histories) → IsOne (trace g events) s → IsOne (trace g events) u
    → AreComparable s u
unfolding IsOne
one_chain g events s u (inl none) other = inl (subst (λ x. IsSubset x u) (sym none) (empty_least u))
one_chain g events s u (inr k) (inl none) = inr (subst (λ x. IsSubset x s) (sym none) (empty_least s))
one_chain g events s u (inr k) (inr j) =
    let all = learnt (trace g events) in
    subst₂ AreComparable k.set j.set
    (learnt_comparable g events k.learnt_as j.learnt_as (IsIn_contains all k.learnt_as k.was)
    (IsIn_contains all j.learnt_as j.was) (k.of_objects ∙ sym j.of_objects))

one_submitted : (g : Group) (events : List Event) (s : Histories) → IsOne (trace g events) s
    → IsSubset s (whole (trace g events) 0)
unfolding IsOne
one_submitted g events s (inl none) = subst (λ x. IsSubset x (whole (trace g events) 0)) (sym none) (empty_least _)
one_submitted g events s (inr k) =
    let t = trace g events in
    let l = k.learnt_as in
    subst (λ x. IsSubset x (whole t 0)) k.set
    (subst (λ i. IsSubset l.updates (whole t i)) k.of_objects
    (learnt_submitted g events l (IsIn_contains (learnt t) l k.was)))

-- with an update that was submitted later
one_in_order : (g : Group) (newer events : List Event) (s u : Histories) (id : UpdateId) → IsOne (trace g events) s
    → IsOne (trace g (newer ++ events)) u → IsSubmittedLater (trace g events) 0 id → IsSome (get u id) → IsSubset s u
one_in_order g newer events s u id was is late holds =
    elim (one_chain g (newer ++ events) s u (still_one g newer events s was) is) [
      | inl sub ↦ sub
      | inr sub ↦
          absurd (none_later (trace g events) 0 s id (one_submitted g events s was) late (held_within u s id sub holds))
    ]

-- ## One moment

-- these events are its calls, and lead to it
record StandsAt (c : Config) (now : GroupMoment) (events : Past) : Type 0 where
  group : LiveGroup
  reached : Reaches c now.calls group
  stands : StandsForEvents c group events
  are : group.replicas ≡ now.states
  said : AreSomeInOrder now.learnt group.learnt
  calls : AreEventsOf now.calls events

get_from_map : {A B : Type 0} (f : A → B) (xs : List A) (k : ℕ) (y : B) → slice_get (map f xs) k ≡ Some y
    → (x : A) × (slice_get xs k ≡ Some x) × (f x ≡ y)
get_from_map f [] k y e = absurd (none-some y e)
get_from_map f (x ∷ xs) zero y e = (x, refl, same_Some (f x) y e)
get_from_map f (x ∷ xs) (suc k) y e = get_from_map f xs k y e

module _ (c : Config) (now : GroupMoment) (events : Past) (h : StandsAt c now events) where
  abbrev g : Group
  g = live_group_of c

  abbrev t : Trace
  t = trace g events

  -- ### Its replicas

  found : (r : ℕ) (q : ReplicaState) → slice_get now.states r ≡ Some q → slice_get h.group.replicas r ≡ Some q
  found r q at = ap (λ ss. slice_get ss r) h.are ∙ at

  state : (r : ℕ) (q : ReplicaState) → slice_get now.states r ≡ Some q → q ≡ replica_state g t r
  state r q at = is_state c h.group events h.stands r q (found r q at)

  in_group : (r : ℕ) (q : ReplicaState) → slice_get now.states r ≡ Some q → r < replicas g
  in_group r q at = known c h.group events h.stands r q (found r q at)

  -- each replica of the group stands there
  standing : (r : ℕ) → r < replicas g → slice_get now.states r ≡ Some (replica_state g t r)
  standing r lt =
      ap (λ ss. slice_get ss r) (sym h.are ∙ h.stands.led.replica_states)
      ∙ get_made (replica_state g t) 0 (replicas g) r r lt (omega arith)

  place_of : (q : ReplicaState) → Contains now.states q → (r : ℕ) × (slice_get now.states r ≡ Some q)
  place_of q has = IsIn_place now.states q (contains_IsIn now.states q has)

  view_at : (r : ℕ) (q : ReplicaState) → slice_get now.states r ≡ Some q → trace_view t r ≡ q.view
  unfolding replica_state
  view_at r q at = sym (ap (λ (m : ReplicaState). m.view) (state r q at))

  -- ### What is learnt

  -- the sets at places in order
  noted_at : (b : ℕ) (x : LearntSet) → slice_get h.group.learnt b ≡ Some x
      → (l : Learnt) × (slice_get (learnt t) b ≡ Some l) × (learnt_set_of l ≡ x)
  noted_at b x at =
      get_from_map learnt_set_of (learnt t) b x (ap (λ xs. slice_get xs b) (sym h.stands.learnt) ∙ at)

  noted : (x : LearntSet) → Contains now.learnt x → (l : Learnt) × IsIn l (learnt t) × (learnt_set_of l ≡ x)
  noted x has =
      let k = IsIn_place now.learnt x (contains_IsIn now.learnt x has) in
      let b = some_at now.learnt h.group.learnt k.0 x h.said k.1 in
      let l = noted_at b.0 x b.1 in
      (l.0, IsIn_get (learnt t) b.0 l.0 l.1, l.2)

  by_calls : (l : Learnt) → IsIn l (learnt t) → Contains h.group.learnt (learnt_set_of l)
  by_calls l is =
      subst (λ xs. Contains xs (learnt_set_of l)) (sym h.stands.learnt)
      (mapped_has learnt_set_of (learnt t) l (IsIn_contains (learnt t) l is))

  -- a view contains what its replica learnt in instance 0
  in_view : (l : Learnt) → IsIn l (learnt t) → l.instance ≡ 0 → IsSubset l.updates (trace_view t l.replica)
  in_view l is zeroth =
      (views_largest g events l.replica).contains l.updates
      (IsIn_contains (seen t l.replica) l.updates (learnt_seen t l is zeroth))

  shown : (s : Histories) → IsShownThen now s → IsOne t s
  unfolding IsOne
  shown s (inl v) =
      let p = place_of v.replica v.has in
      subst (IsOne t) (view_at p.0 v.replica p.1 ∙ v.is) (view_one g events p.0)
  shown s (inr n) =
      let l = noted n.noted n.has in
      inr record {
        learnt_as = l.0;
        was = l.1;
        of_objects = ap (λ (x : LearntSet). x.instance) l.2 ∙ n.of_objects;
        set = ap (λ (x : LearntSet). x.updates) l.2 ∙ n.is;
      }

  grows : NotedGrow now
  grows j k x y at_j at_k instance replica lt =
      let w = some_places now.learnt h.group.learnt j k x y h.said at_j at_k lt in
      let a = noted_at w.0 x w.1.2 in
      let b = noted_at w.1.0 y w.1.3 in
      let at : a.0.instance ≡ b.0.instance =
      ap (λ (z : LearntSet). z.instance) a.2 ∙ instance ∙ sym (ap (λ (z : LearntSet). z.instance) b.2) in
      let by : a.0.replica ≡ b.0.replica =
      ap (λ (z : LearntSet). z.replica) a.2 ∙ replica ∙ sym (ap (λ (z : LearntSet). z.replica) b.2) in
      let larger = learnt_grow g events w.0 w.1.0 a.0 b.0 a.1 b.1 at by w.1.1 in
      subst₂ (λ (u v : LearntSet). IsStrictSubset u.updates v.updates) a.2 b.2 larger

  largest : ViewsAreLargestThen c now
  unfolding IsOne
  largest r q at = record {
    contains = λ x has zeroth of_r.
        let l = noted x has in
        let by : l.0.replica ≡ r = ap (λ (z : LearntSet). z.replica) l.2 ∙ of_r in
        subst₂ IsSubset (ap (λ (z : LearntSet). z.updates) l.2)
        (ap (trace_view t) by ∙ view_at r q at)
        (in_view l.0 l.1 (ap (λ (z : LearntSet). z.instance) l.2 ∙ zeroth));
    is_one = elim (view_one g events r) [
      | inl none ↦ inr (sym (view_at r q at) ∙ none)
      | inr k ↦ inl (
        learnt_set_of k.learnt_as,
        record { group = h.group; reached = h.reached; has = by_calls k.learnt_as k.was },
        k.of_objects,
        k.set ∙ view_at r q at,
      )
    ];
  }

  -- ### What was submitted

  submitted : ShownWereSubmitted now
  submitted s u is holds =
      ap (λ ds. object_op_number ds u.id.number) (sym (ops_are u.id.replica c now.calls events h.calls))
      ∙ whole_number t 0 u (one_submitted g events s (shown s is) u holds)

  late : (id : UpdateId) → IsStillToCome now.calls id → IsSubmittedLater t 0 id
  late id to_come =
      subst (λ ds. length ds < id.number) (sym (ops_are id.replica c now.calls events h.calls)) to_come

  -- where nothing waits the last ballot's set has all
  all_taken : (r : ℕ) (q : ReplicaState) → slice_get now.states r ≡ Some q → NothingWaits q
      → history (round t 0 r).updates r ≡ ops_submitted r now.calls
  unfolding instance_of proposer_state
  all_taken r q at none =
      let mine = history (round t 0 r).updates r in
      let all = submitted_ops t 0 r in
      let rest : drop (length mine) all ≡ [] =
      none (instance_of g t r 0)
      (ap (λ (m : ReplicaState). slice_get m.instances 0) (state r q at) ∙ get_instance g t r 0 (omega arith)) in
      sym (append-nil mine) ∙ ap (λ xs. mine ++ xs) (sym rest)
      ∙ and_rest mine all (own g t (holds g events) 0 r)
      ∙ ops_are r c now.calls events h.calls

  -- ### Adopt-commit

  -- an object from which a replica returned is one of the group
  object_there : (k r : ℕ) (o : Outcome) → returned_by k (replica_state g t r) ≡ Some o → k < c.commits
  unfolding replica_state
  object_there k r o has =
      go (slice_get (replica_state g t r).instances (second_instance k)) refl
    where
      go : (found : Option Instance)
          → slice_get (replica_state g t r).instances (second_instance k) ≡ found → k < c.commits
      go None at =
          absurd (none-some o (sym (ap (λ x. option_and_then (λ s. outcome_of s r) (learnt_of x)) at) ∙ has))
      go (Some x) at =
          omega (
            arith,
            slice_get_within (replica_state g t r).instances (second_instance k) x at,
            length-map-range_with_len (instance_of g t r) 0 (instances g),
          )

  decided : (k : ℕ) (p : ReplicaState) (o : Outcome) → Contains now.states p → returned_by k p ≡ Some o
      → Contains (decisions_of c h.group.replicas) (decision_of k p.own o)
  decided k p o has returned =
      let at = place_of p has in
      let there =
      object_there k at.0 o (ap (returned_by k) (sym (state at.0 p at.1)) ∙ returned) in
      listed_by decision_by h.group.replicas c.commits k p (decision_of k p.own o) there
      (contains_IsIn h.group.replicas p (subst (λ ss. Contains ss p) (sym h.are) has))
      (ap (option_map (decision_of k p.own)) returned)

  agree : (k : ℕ) (q p : ReplicaState) (o other : Outcome) → Contains now.states q → Contains now.states p
      → returned_by k q ≡ Some o → returned_by k p ≡ Some other → is_commit o ≡ true → value_of other ≡ value_of o
  agree k q p o other has_q has_p by_q by_p commits =
      (group_keeps c h.group events h.stands).safe.agree (decision_of k q.own o) (decision_of k p.own other)
      (decided k q o has_q by_q) (decided k p other has_p by_p) refl commits

  proposed : (p : ReplicaState) (k : ℕ) (o : Outcome) → Contains now.states p → returned_by k p ≡ Some o
      → (r : ℕ) × Contains now.calls (r, Proposed k (value_of o))
  proposed p k o has by =
      let x =
      (group_keeps c h.group events h.stands).safe.proposed (decision_of k p.own o) (decided k p o has by) in
      (x.0, called_proposal now.calls events x.0 k (value_of o) h.calls x.1)

  unanimous : (p : ReplicaState) (k value : ℕ) (o : Outcome)
      → ((r other : ℕ) → Contains now.calls (r, Proposed k other) → other ≡ value)
      → Contains now.states p → returned_by k p ≡ Some o → o ≡ Commit value
  unanimous p k value o all has by =
      (group_keeps c h.group events h.stands).safe.unanimous k value
      (λ r other made. all r other (called_proposal now.calls events r k other h.calls made))
      (decision_of k p.own o) (decided k p o has by) refl

-- ## Two moments

module _ (c : Config) (before after : GroupMoment) (events newer : Past) (was : StandsAt c before events)
    (is : StandsAt c after (newer ++ events)) where
  abbrev its : Group
  its = live_group_of c

  comparable : NotedAreComparable before after
  comparable x y has_x has_y same =
      let a = noted c before events was x has_x in
      let b = noted c after (newer ++ events) is y has_y in
      let at : a.0.instance ≡ b.0.instance =
      ap (λ (z : LearntSet). z.instance) a.2 ∙ same ∙ sym (ap (λ (z : LearntSet). z.instance) b.2) in
      let still =
      learnt_still its newer events a.0 (IsIn_contains (learnt (trace its events)) a.0 a.1) in
      subst₂ (λ (u v : LearntSet). AreComparable u.updates v.updates) a.2 b.2
      (learnt_comparable its (newer ++ events) a.0 b.0 still
      (IsIn_contains (learnt (trace its (newer ++ events))) b.0 b.1) at)

  one_history : ShownAreOneHistory before after
  one_history s u shown_s shown_u =
      one_chain its (newer ++ events) s u (still_one its newer events s (shown c before events was s shown_s))
      (shown c after (newer ++ events) is u shown_u)

  views : ViewsOnlyGrow before after
  views r q p at_q at_p =
      subst₂ IsSubset (view_at c before events was r q at_q) (view_at c after (newer ++ events) is r p at_p)
      (views_grow_on its newer events r)

  own_held : NotedHoldTheirOwn before after
  own_held y q has zeroth at none =
      let t = trace its events in
      let l = noted c after (newer ++ events) is y has in
      let sets = λ (z : LearntSet). z.updates in
      let r : l.0.replica ≡ y.replica = ap (λ (z : LearntSet). z.replica) l.2 in
      let i : l.0.instance ≡ 0 = ap (λ (z : LearntSet). z.instance) l.2 ∙ zeroth in
      elim (learnt_since its newer events l.0 l.1) [
        | inl old ↦
            inl (subst₂ IsSubset (ap sets l.2) (ap (trace_view t) r ∙ view_at c before events was y.replica q at)
            (in_view c before events was l.0 old i))
        | inr since ↦ inr (λ u by called.
            let last = (round t 0 y.replica).updates in
            let mine : history last u.id.replica ≡ ops_submitted u.id.replica before.calls =
            ap (history last) by ∙ all_taken c before events was y.replica q at none
            ∙ ap (λ p. ops_submitted p before.calls) (sym by) in
            let held : ContainsUpdate last u =
            contains-object_op last u (ap (λ ds. object_op_number ds u.id.number) mine ∙ called) in
            let within : IsSubset last y.updates =
            subst (IsSubset last) (ap sets l.2)
            (subst₂ (λ j p. IsSubset (round t j p).updates l.0.updates) i r since) in
            within u held)
      ]

  in_order : ShownAreInOrder before after
  in_order s u id shown_s to_come shown_u holds =
      one_in_order its newer events s u id (shown c before events was s shown_s)
      (shown c after (newer ++ events) is u shown_u) (late c before events was id to_come) holds

  reads : MarksAreCurrent before after
  reads p mark objects object query answer has holds to_come value = record {
    read = p.view;
    value = value;
    current = λ s shown_s.
        in_order s p.view mark shown_s to_come (inl record { replica = p; has = has; is = refl }) holds;
  }

  removed : RemovedAreWithIt before after
  removed more r object tags s same named shown_s holds tag has =
      let w = named tag has in
      let next : IsStillToCome before.calls (id_to_come before.calls r) = omega arith in
      held_within w.set s tag (in_order w.set s (id_to_come before.calls r) w.shown next shown_s holds) w.holds

  stays : OutcomesNeverChange before after
  stays r q p at_q at_p k o by =
      let t = trace its events in
      let then = state c before events was r q at_q in
      let now = state c after (newer ++ events) is r p at_p in
      let there = object_there c before events was k r o (ap (returned_by k) (sym then) ∙ by) in
      ap (returned_by k) now ∙ returned_is its (trace its (newer ++ events)) k r there
      ∙ outcomes_stay its events newer k r o is.stands.led.legal
      (sym (returned_is its t k r there) ∙ ap (returned_by k) (sym then) ∙ by)

  safe : IsSafeOver before after
  safe = record {
    agree = λ q p k o other has_q has_p by_q by_p.
        let at = place_of c before events was q has_q in
        let then = in_group c before events was at.0 q at.1 in
        let later = replica_state its (trace its (newer ++ events)) at.0 in
        let stands = standing c after (newer ++ events) is at.0 then in
        let there : Contains after.states later =
        IsIn_contains after.states later (IsIn_get after.states at.0 later stands) in
        let still = stays at.0 q later at.1 stands k o by_q in (
          agree c after (newer ++ events) is k later p o other there has_p still by_p,
          agree c after (newer ++ events) is k p later other o has_p there by_p still,
        );
    proposed = proposed c after (newer ++ events) is;
    unanimous = unanimous c after (newer ++ events) is;
  }

  alike : ViewsAnswerAlike before after
  alike q p objects others object query a b has_q has_p same kinds at_a at_b =
      same_Some a b
      (sym at_a
      ∙ ap₂ (λ v o. option_map (λ kind. meaning.value kind (updates_at v object) query) o) same kinds
      ∙ at_b)

  keep : MomentsKeepAll c before after
  keep = record {
    comparable = comparable;
    grows = grows c after (newer ++ events) is;
    one_history = one_history;
    views = views;
    largest = largest c after (newer ++ events) is;
    submitted = submitted c after (newer ++ events) is;
    own = own_held;
    order = in_order;
    reads = reads;
    removed = removed;
    safe = safe;
    outcomes = stays;
    answers = alike;
  }

-- ## As they are stated

are_both : (more calls : List (ℕ × NodeCall)) (newer events : Past) → AreEventsOf more newer → AreEventsOf calls events
    → AreEventsOf (more ++ calls) (newer ++ events)
are_both [] calls [] events new old = old
are_both [] calls (e ∷ newer) events new old = absurd new
are_both (call ∷ more) calls [] events new old = absurd new
are_both (call ∷ more) calls (e ∷ newer) events (here, new) old = (here, are_both more calls newer events new old)

both_keep : (c : Config) (more calls : List (ℕ × NodeCall)) (then later : LiveGroup) (before after : List ReplicaState)
    (noted now : List LearntSet) → Reaches c calls then → Reaches c (more ++ calls) later → then.replicas ≡ before
    → later.replicas ≡ after → AreSomeInOrder noted then.learnt → AreSomeInOrder now later.learnt
    → MomentsKeepAll c (record { calls = calls; states = before; learnt = noted })
    (record { calls = more ++ calls; states = after; learnt = now })
both_keep c more calls then later before after noted now reached reaches was is said says =
    let h = comes_later c more calls later reaches in
    let same = same_group c calls h.middle then h.reached reached in
    keep c (record { calls = calls; states = before; learnt = noted })
    (record { calls = more ++ calls; states = after; learnt = now }) h.events h.newer
    record {
      group = then;
      reached = reached;
      stands = subst (λ group. StandsForEvents c group h.events) same h.stood;
      are = was;
      said = said;
      calls = h.are;
    }
    record {
      group = later;
      reached = reaches;
      stands = h.stands;
      are = is;
      said = says;
      calls = are_both more calls h.newer h.events h.newer_are h.are;
    }

pub together_keep : TogetherKeepAll
together_keep c more calls before after letters others noted now then later =
    both_keep c more calls then.group later.group before after noted now then.reached later.reached then.are later.are
    then.said later.said

pub groups_keep : LiveGroupsKeepAllOver
groups_keep c more calls before after reached reaches =
    both_keep c more calls before after before.replicas after.replicas before.learnt after.learnt reached reaches refl
    refl (some_same before.learnt) (some_same after.learnt)

pub together_of_events : TogetherKeepAllOfEvents
together_of_events c calls states letters noted is =
    let (events, s, are) = groups_stand c calls is.group is.reached in
    let g = live_group_of c in
    record {
      events = events;
      are = are;
      listed = subst (AreSomeInOrder noted) s.learnt is.said;
      keeps =
          subst (λ ss. GroupKeepsAll g events (learnt (trace g events)) (views_of ss) (decisions_of c ss)) is.are
          (group_keeps c is.group events s);
    }
