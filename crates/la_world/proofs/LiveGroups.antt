-- A group of live replicas stands for the events that its calls are, and so keeps what they promise.
use Rattle.std.proofs.Common.{◌≡◌, ◌≢◌, fold, inl, inr, ℕ, zero, suc, ◌+◌, ◌<◌, ◌≤◌, Bool, true, false, List, [], ◌∷◌, ◌++◌, length, map, drop, slice_get, slice_set, Contains, Option, Some, None, IsSomeAnd, option_map, option_and_then, refl, ap, ap₂, sym, ◌∙◌, append-nil, subst, subst₂, arith}
use Rattle.std.specs.Prelude.{flat_map}
use Rattle.std.specs.List.{range_with_len}
use Rattle.std.proofs.Math.Logic.{∥∥₁_elim, ∥∥₁_map}
use Rattle.std.proofs.lemmas.Bool.{false≢true}
use Rattle.std.proofs.lemmas.Option.{same_Some, none-some, slice_get_within}
use Rattle.std.proofs.lemmas.List.{map-append, map-set, drop_at}
use Rattle.std.proofs.lemmas.List.Elements.{Contains-append_left, Contains-append_right, Contains-append_cases}
use Rattle.std.proofs.lemmas.List.FromFn.{length-map-range_with_len}
use Rattle.la_set.specs.ObjectOps.{ObjectOp}
use Rattle.la_set.specs.Histories.{Histories}
use Rattle.la_set.specs.Inclusion.{is_subset, AreComparable}
use Rattle.la_set.proofs.lemmas.Decisions.{is_subset-Decides}
use Rattle.la_set.proofs.lemmas.Filters.{Contains-none}
use Rattle.la_proposer.specs.ProposerState as proposer
use Rattle.la_commit.specs.Instances.{first_instance}
use Rattle.la_commit.specs.Votes.{first_vote}
use Rattle.la_replica.specs.declared.instance.Instance.{Instance}
use Rattle.la_replica.specs.declared.message.Message as code
use Rattle.la_set.specs.declared.counts.Counts.{Counts}
use Rattle.la_replica.specs.Whole.{Message, Out, whole_of, whole_mail}
use Rattle.la_replica.specs.Received.{received_in, StandsIn, IsCarriedIn}
use Rattle.la_replica.specs.Alike.{AreAlike}
use Rattle.la_replica.specs.Rebased.{rebased_message, MayBeOver, IsOneIn}
use Rattle.la_replica.specs.Bases.{offered_by}
use Rattle.la_replica.proofs.lemmas.Carrying.{carried_received, carried_offers}
use Rattle.la_replica.proofs.lemmas.Alike.{alike_trans, alike_received}
use Rattle.la_replica.proofs.lemmas.Rebasing.{rebased_whole, over_one, alike_stands}
use Rattle.la_replica.specs.Stored.{IsMade}
use Rattle.la_world.specs.Told.{offered_to, sent_as_told, told_messages}
use Rattle.la_world.proofs.Tellings.{told_at_carries, told_are_made}
use Rattle.la_world.proofs.ToldMail.{told_as, sent_sides}
use Rattle.la_world.proofs.Deliverable.{IsDeliverableAt, deliverable_carried}
use Rattle.la_world.proofs.Delivered.{told_sent, told_deliverable}
use Rattle.la_replica.specs.Steps.{learnt_in}
use Rattle.la_replica.specs.Refusals.{HasRoom}
use Rattle.la_replica.specs.ReplicaState as acting
use Rattle.la_replica.specs.ReplicaState.{ReplicaState, submitted_in}
use Rattle.la_node.specs.declared.config.Config.{Config}
use Rattle.la_world.specs.declared.step.Opening.{Opening}
use Rattle.la_world.specs.Groups.{Group, replicas, instances}
use Rattle.la_world.specs.Events.{Event, Past, Submit, Deliver, Decide}
use Rattle.la_world.specs.Trace.{Did, Entry, Trace}
use Rattle.la_set.specs.Counts.{zero_counts}
use Rattle.la_world.specs.Sent.{sent_at, sent}
use Rattle.la_world.specs.Ballots.{opening_learnt}
use Rattle.la_world.specs.Submissions.{submission_by, submitted_ops}
use Rattle.la_world.specs.Views.{trace_view}
use Rattle.la_world.specs.Playing.{does_submit, does_receive, event_entry, trace}
use Rattle.la_world.specs.Learnings.{learning_of, learnt}
use Rattle.la_world.specs.Outcomes.{decisions}
use Rattle.la_world.specs.Report.{refused, views}
use Rattle.la_world.specs.ReplicaStates.{instance_of, proposer_state, replica_state, replica_states}
use Rattle.la_node.specs.Taking.{vote_due, then_votes, takes}
use Rattle.la_node.specs.Calls.{NodeCall, Submitted, Proposed, Received}
use Rattle.la_node.specs.Telling.{message_told}
use Rattle.la_node.specs.Steps.{Given, of_submission, of_receipt, step_given, node_step, after_call, after_calls}
use Rattle.la_node.proofs.lemmas.Stepping.{was_accepted, some_of}
use Rattle.la_node.proofs.lemmas.Items.{get_put}
use Rattle.la_world.specs.StandsFor.{EventsLeadTo}
use Rattle.la_node.specs.Nodes.{NodeState}
use Rattle.la_world.specs.Calls.{views_of, decisions_at}
use Rattle.la_world.specs.Headline.{IsAdoptCommit}
use Rattle.la_world.specs.Promises.{GroupKeepsAll}
use Rattle.la_world.specs.LiveGroups.{LearntSet, LiveGroup, IsHeard, learnt_set, learnt_by_call, IsGroupStep}
use Rattle.la_world.specs.LiveGroups.{IsGroupStart, Reaches, live_group_of, learnt_set_of, StandsForEvents}
use Rattle.la_world.specs.LiveGroups.{live_event, AreEventsOf, IsAmong, IsReached, AreLive, replicas_of, decisions_of}
use Rattle.la_world.specs.LiveGroups.{LiveGroupsStandForEvents, LiveGroupsKeepAll, LiveLearntAreComparable}
use Rattle.la_world.specs.LiveGroups.{LiveViewsAreComparable, LiveNodesAreOneHistory, NewNodesAreLive}
use Rattle.la_world.specs.LiveGroups.{NetworksMayLose, CallsKeepLive, UnheardCallsKeepLive}
use Rattle.la_world.specs.Rebased.{TellsAs, IsRetold, AreRetold}
use Rattle.la_world.proofs.Lists.{AllIn, AllIn_at, IsIn_get, contains_IsIn, IsIn_contains, IsIn_mapped, IsIn_place, get_mapped, made_at}
use Rattle.la_world.proofs.Openings.{IsOf}
use Rattle.la_world.proofs.Traces.{holds}
use Rattle.la_world.proofs.Chains.{learnt_comparable}
use Rattle.la_world.proofs.LargestViews.{views_comparable}
use Rattle.la_world.proofs.Allowing.{submission_allowed, delivery_allowed}
use Rattle.la_world.proofs.Proposals.{tested_in_order}
use Rattle.la_world.proofs.SubmissionEvents.{submission_entry}
use Rattle.la_world.proofs.OneReplicaSteps.{get_instance}
use Rattle.la_world.proofs.RefusedForMemory.{submitted_is}
use Rattle.la_world.proofs.Legal.{legal_submits, legal_between, submission_steps, proposal_steps, delivery_steps, delivery_placed, entry_delivers}
use Rattle.la_world.specs.Following.{StepsAs, out_at}
use Rattle.la_world.proofs.WorldSteps.{sent_between, few_of, states_at_start, led_at_start, led_on, submits_learns, learnt_said}
use Rattle.la_world.proofs.Worlds.{set_same, views_made}
use Rattle.la_world.proofs.Returned.{decisions_made}
use Rattle.la_world.proofs.Agreement.{adopt_commit}
use Rattle.la_world.proofs.Promised.{trace_keeps}
use Rattle.la_world.proofs.RebasedReceipts.{sent_one}

pub alike_tells : (k m n : code.Message) → AreAlike k m → TellsAs m n → TellsAs k n
alike_tells k m n h (inl same) = inl (alike_trans k m n h same)
alike_tells k m n h (inr over) = inr (over.0, over.1, alike_trans k m (rebased_message over.0 n) h over.2)

pub tells_to : (m n : code.Message) → TellsAs m n → m.to ≡ n.to
tells_to m n (inl alike) = alike.to
tells_to m n (inr over) = over.2.to

pub tells_in : (m n : code.Message) → TellsAs m n → m.instance ≡ n.instance
tells_in m n (inl alike) = alike.instance
tells_in m n (inr over) = over.2.instance

pub start_stands : (c : Config) (group : LiveGroup) → IsGroupStart c group → StandsForEvents c group []
unfolding trace told_messages learnt
start_stands c group is = record {
  config = is.config;
  led =
      led_at_start (live_group_of c) group.replicas (whole_mail group.sent) (is.replicas ∙ states_at_start c [])
      (ap whole_mail is.sent);
  told = is.sent;
  learnt = is.learnt;
}

module _ (c : Config) (group : LiveGroup) (events : Past) (stands : StandsForEvents c group events) where
  abbrev g : Group
  g = live_group_of c

  abbrev t : Trace
  t = trace g events

  few : replicas g ≤ 8
  few = few_of c [] stands.config

  -- what an event comes to at replica r, which is this one then, tells this and says that it learnt that
  pub record IsMadeBy (e : Event) (r : ℕ) (made : ReplicaState) (mail : List code.Message) (said : List LearntSet) :
      Type 0 where
    pub allowed : refused g t e ≡ None
    pub others : (q : ℕ) → q ≢ r → replica_state g (event_entry g t e ∷ t) q ≡ replica_state g t q
    pub is : made ≡ replica_state g (event_entry g t e ∷ t) r
    pub told : mail ≡ sent_as_told (replicas g) (event_entry g t e) t
    pub says : said ≡ map learnt_set_of (learning_of (length t) (opening_learnt (event_entry g t e).did))

  -- ## One event more

  stands_with : (e : Event) (r : ℕ) (made : ReplicaState) (mail : List code.Message) (said : List LearntSet)
      (after : LiveGroup) → r < replicas g → IsMadeBy e r made mail said
      → after.replicas ≡ slice_set group.replicas r made → after.sent ≡ group.sent ++ mail
      → after.learnt ≡ group.learnt ++ said → StandsForEvents c after (e ∷ events)
  unfolding trace told_messages learnt
  stands_with e r made mail said after known by states sends learns =
      let x = event_entry g t e in
      let whole : whole_mail mail ≡ sent_at (replicas g) x = ap whole_mail by.told ∙ told_at_carries (replicas g) x t in
      record {
        config = stands.config;
        led =
            subst₂ (EventsLeadTo g (e ∷ events)) (sym states)
            (sym (ap whole_mail sends ∙ map-append whole_of group.sent mail))
            (led_on g events group.replicas (whole_mail group.sent) stands.led e r made (whole_mail mail) by.allowed
            by.others known by.is whole);
        told = sends ∙ ap₂ (λ xs ys. xs ++ ys) stands.told by.told;
        learnt =
            learns ∙ ap₂ (λ xs ys. xs ++ ys) stands.learnt by.says
            ∙ sym (map-append learnt_set_of (learnt t) (learning_of (length t) (opening_learnt x.did)));
      }

  -- ## A call of replica r

  module _ (r : ℕ) (replica : ReplicaState) (found : slice_get group.replicas r ≡ Some replica) where
    state_found : slice_get (replica_states g t) r ≡ Some replica
    state_found = ap (λ ms. slice_get ms r) (sym stands.led.replica_states) ∙ found

    pub known : r < replicas g
    known =
        let lt = slice_get_within (replica_states g t) r replica state_found in
        let n = length-map-range_with_len (replica_state g t) 0 (replicas g) in omega (arith, lt, n)

    pub is_state : replica ≡ replica_state g t r
    is_state =
        sym (made_at (replica_state g t) 0 (replicas g) r replica state_found)
        ∙ ap (replica_state g t) {x = 0 + r} {y = r} (omega arith)

    -- what it has submitted in an instance, if there is one
    count_is : (i : ℕ) → i < instances g → submitted_in replica i ≡ Some (length (submitted_ops t i r))
    unfolding instance_of proposer_state
    count_is i there =
        ap (λ (m : ReplicaState). submitted_in m i) is_state
        ∙ ap (option_map (λ (x : Instance). proposer.submitted x.proposer)) (get_instance g t r i there)
        ∙ ap Some (submitted_is g t i r (holds g events))

    has_room : HasRoom replica 0 → length (submitted_ops t 0 r) < g.cap
    unfolding instance_of proposer_state
    has_room h =
        subst (λ n. n < g.cap) (submitted_is g t 0 r (holds g events))
        (subst (λ o. IsSomeAnd o (λ x. proposer.submitted x.proposer < x.proposer.cap))
        (get_instance g t r 0 (omega arith)) (subst (λ m. HasRoom m 0) is_state h))

    -- a submission by which the replica made this
    submission_made : (e : Event) (i : ℕ) (d : ObjectOp) (by : (did : Did) → submission_by e did ≡ Some (record { instance = i; replica = r; object_op = d })) → i < instances g
        → refused g t e ≡ None
        → StepsAs g t (event_entry g t e) r (out_at (replicas g) (event_entry g t e))
        (acting.submits (replica_state g t r) i d)
        → (given : Given) (made : ReplicaState)
        → option_map of_submission (acting.submits replica i d) ≡ Some (given, made)
        → IsMadeBy e r made given.mail []
    submission_made e i d by there allowed f given made does =
        let x = event_entry g t e in
        let h = legal_submits g events stands.led.legal few e i r d by there known in
        let none = submits_learns t i r d in
        let entry = submission_entry g t i r d e by in
        let sides : AllIn (λ (m : Message). (m.from ≡ r) × (m.to < 8)) (sent_at (replicas g) x) =
        subst (λ (y : Entry). AllIn (λ (m : Message). (m.from ≡ r) × (m.to < 8)) (sent_at (replicas g) y)) (sym entry)
        (sent_sides (replicas g) r None (does_submit t i r d) few (λ b f. (h.concerns.opened b f).replica)
        (λ b f. absurd (none-some b (sym none ∙ f))) (λ m f. absurd (none-some m f))) in
        let both =
        same_Some _ _
        (sym does ∙ ap (λ m. option_map of_submission (acting.submits m i d)) is_state
        ∙ ap (option_map of_submission) f.step) in
        let offers : zero_counts ≡ offered_to x.delivered = sym (ap (λ (y : Entry). offered_to y.delivered) entry) in
        record {
          allowed = allowed;
          others = f.others;
          is = ap (λ p. p.1) both;
          told =
              ap (λ p. p.0.mail) both
              ∙ ap (λ o. map (message_told (replica_state g (x ∷ t) r) o) (sent_at (replicas g) x)) offers
              ∙ told_as g t x r sides (sent_between g events e allowed stands.led.legal);
          says =
              sym
              (ap (λ (y : Entry). map learnt_set_of (learning_of (length t) (opening_learnt y.did))) entry
              ∙ ap (λ o. map learnt_set_of (learning_of (length t) o)) none);
        }

    submitted_made : (d : ObjectOp) (given : Given) (made : ReplicaState)
        → node_step replica (Submitted d) ≡ Some (given, made) → IsMadeBy (Submit r d) r made given.mail []
    unfolding step_given
    submitted_made d given made does =
        let was = was_accepted replica (Submitted d) (given, made) does in
        let allowed = submission_allowed g t r d known (has_room was.0.0) in
        submission_made (Submit r d) 0 d (λ did. refl) (omega arith) allowed
        (submission_steps g events r d few stands.led.legal allowed) given made was.1

    -- an object to which a first proposal may be made is one of the group
    object_known : (k : ℕ) → submitted_in replica (first_instance k) ≡ Some 0 → first_instance k < instances g
    unfolding replica_state
    object_known k count =
        go (slice_get (replica_state g t r).instances (first_instance k)) refl
        (ap (λ (m : ReplicaState). submitted_in m (first_instance k)) (sym is_state) ∙ count)
      where
        go : (o : Option Instance) → slice_get (replica_state g t r).instances (first_instance k) ≡ o
            → option_map (λ (x : Instance). proposer.submitted x.proposer) o ≡ Some 0 → first_instance k < instances g
        go None at e = absurd (none-some 0 e)
        go (Some x) at e =
            let lt = slice_get_within (replica_state g t r).instances (first_instance k) x at in
            let n = length-map-range_with_len (instance_of g t r) 0 (instances g) in omega (arith, lt, n)

    proposed_made : (k value : ℕ) (given : Given) (made : ReplicaState)
        → node_step replica (Proposed k value) ≡ Some (given, made) → IsMadeBy (Decide r k value) r made given.mail []
    unfolding step_given
    proposed_made k value given made does =
        let was = was_accepted replica (Proposed k value) (given, made) does in
        let there = object_known k was.0 in
        let none_yet = same_Some _ _ (sym (count_is (first_instance k) there) ∙ was.0) in
        let allowed =
        (tested_in_order g events r k value).first known (omega (arith, there)) (omega (arith, none_yet)) in
        submission_made (Decide r k value) (first_instance k) (first_vote k value) (λ did. refl) there allowed
        (proposal_steps g events r k value few stands.led.legal allowed) given made was.1

    -- what is learnt by a message
    said_as : (i : ℕ) (m : Message) (o : Option Opening) → i ≡ m.instance → m.to ≡ r
        → ((b : Opening) → o ≡ Some b → IsOf m.instance m.to b)
        → learnt_set i r (option_map (λ (b : Opening). b.updates) o) ≡ map learnt_set_of (learning_of (length t) o)
    said_as i m None at to placed = refl
    said_as i m (Some b) at to placed = let p = placed b refl in ap₂ (λ j q. record { instance = j; replica = q; updates = b.updates } ∷ []) (at ∙ sym p.instance) (sym to ∙ sym p.replica)

    -- ### A message of the network

    -- is received as the one that was sent
    module _ (place : ℕ) (n : code.Message) (at : slice_get (told_messages (replicas g) t) place ≡ Some n)
        (to : n.to ≡ r) where
      sent_there : slice_get (sent (replicas g) t) place ≡ Some (whole_of n)
      sent_there = told_sent g events stands.led.legal stands.config.group.cap_most place n at

      n_carried : IsCarriedIn replica n
      n_carried =
          let there =
          get_instance g t n.to n.instance
          (legal_between g events stands.led.legal place (whole_of n) sent_there).instance in
          let deliverable = told_deliverable g events stands.led.legal stands.config.group.cap_most place n at in
          subst (λ q. IsCarriedIn q n) (ap (replica_state g t) to ∙ sym is_state)
          (deliverable_carried (replica_state g t n.to) n
          (AllIn_at IsMade (told_messages (replicas g) t) n (told_are_made g events)
          (IsIn_get (told_messages (replicas g) t) place n at))
          (subst (λ o. IsSomeAnd o (λ x. IsDeliverableAt x n)) (sym there) deliverable))

      takes_sent : takes replica (received_in replica n) ≡ takes replica (whole_of n)
      takes_sent =
          ap
          (option_and_then
          (λ (made : Out × ReplicaState). then_votes made (vote_due n.instance replica.own made.0.said)))
          (carried_received replica n n_carried)

      -- over another base too, where it stands
      n_one : IsOneIn replica n
      n_one =
          subst (λ q. IsOneIn q n) (ap (replica_state g t) to ∙ sym is_state)
          (sent_one g events few stands.config.group.cap_most stands.led.legal place n at)

      module _ (b : Counts) (may : MayBeOver b n.body) (over : StandsIn replica (rebased_message b n)) where
        over_carried : IsCarriedIn replica (rebased_message b n)
        over_carried = over_one replica b n may n_one over

        takes_over : takes replica (received_in replica (rebased_message b n)) ≡ takes replica (whole_of n)
        takes_over =
            ap
            (option_and_then
            (λ (made : Out × ReplicaState). then_votes made (vote_due n.instance replica.own made.0.said)))
            (carried_received replica (rebased_message b n) over_carried)
            ∙ ap (takes replica) (rebased_whole b n)

        offers_over : offered_by (received_in replica (rebased_message b n)) ≡ offered_by (whole_of n)
        offers_over = carried_offers replica (rebased_message b n) over_carried ∙ ap offered_by (rebased_whole b n)

      takes_told : (m : code.Message) → TellsAs m n → StandsIn replica m
          → takes replica (received_in replica m) ≡ takes replica (whole_of n)
      takes_told m (inl alike) over = ap (takes replica) (alike_received replica m n alike) ∙ takes_sent
      takes_told m (inr (b, may, alike)) over =
          ap (takes replica) (alike_received replica m (rebased_message b n) alike)
          ∙ takes_over b may (alike_stands replica m (rebased_message b n) alike over)

      offers_told : (m : code.Message) → TellsAs m n → StandsIn replica m
          → offered_by (received_in replica m) ≡ offered_by (whole_of n)
      offers_told m (inl alike) over = ap offered_by (alike_received replica m n alike)
          ∙ carried_offers replica n n_carried
      offers_told m (inr (b, may, alike)) over =
          ap offered_by (alike_received replica m (rebased_message b n) alike)
          ∙ offers_over b may (alike_stands replica m (rebased_message b n) alike over)

      received_made : (m : code.Message) → TellsAs m n → (given : Given) (made : ReplicaState)
          → node_step replica (Received m) ≡ Some (given, made)
          → IsMadeBy (Deliver place) r made given.mail (learnt_set m.instance r (learnt_in given.said))
      unfolding step_given
      received_made m tells given made does =
          let w = whole_of n in
          let x = event_entry g t (Deliver place) in
          let was = was_accepted replica (Received m) (given, made) does in
          let allowed = delivery_allowed g t place (slice_get_within (sent (replicas g) t) place w sent_there) in
          let f = delivery_steps g events place w few stands.led.legal sent_there in
          let placed = delivery_placed g events stands.led.legal few place w sent_there in
          let entry = entry_delivers g t place w sent_there in
          let did : x.did ≡ does_receive g t (Some w) = ap (λ y. y.did) entry in
          let both =
          same_Some _ _
          (sym was.1 ∙ ap (option_map (of_receipt replica m))
          (takes_told m tells was.0.stands ∙ ap (λ s. takes s w) (is_state ∙ ap (replica_state g t) (sym to))
          ∙ f.step)) in
          let sides : AllIn (λ (k : Message). (k.from ≡ n.to) × (k.to < 8)) (sent_at (replicas g) x) =
          subst (λ (y : Entry). AllIn (λ (k : Message). (k.from ≡ n.to) × (k.to < 8)) (sent_at (replicas g) y))
          (sym entry)
          (sent_sides (replicas g) n.to (Some w) (does_receive g t (Some w)) few (λ b h. (placed.opened b h).replica)
          (λ b h. (placed.learnt b h).replica)
          (λ k h. let one = same_Some w k h in (
            ap (λ (z : Message). z.to) (sym one),
            subst (λ (z : Message). z.from < replicas g) one
                (legal_between g events stands.led.legal place w sent_there).from,
          ))) in
          let offers : offered_by (received_in replica m) ≡ offered_to x.delivered =
          offers_told m tells was.0.stands ∙ sym (ap offered_to sent_there) in
          record {
            allowed = allowed;
            others = subst (λ p. (q : ℕ) → q ≢ p → replica_state g (x ∷ t) q ≡ replica_state g t q) to f.others;
            is = ap (λ p. p.1) both ∙ ap (replica_state g (x ∷ t)) to;
            told =
                ap (λ p. p.0.mail) both
                ∙ ap (λ o. map (message_told (replica_state g (x ∷ t) n.to) o) (sent_at (replicas g) x)) offers
                ∙ told_as g t x n.to sides (sent_between g events (Deliver place) allowed stands.led.legal);
            says =
                ap (λ p. learnt_set m.instance r (learnt_in p.0.said)) both
                ∙ ap (learnt_set m.instance r) (learnt_said x.did)
                ∙ said_as m.instance w (opening_learnt x.did) (tells_in m n tells) to
                (subst (λ d. (b : Opening) → opening_learnt d ≡ Some b → IsOf w.instance w.to b) (sym did)
                placed.learnt);
          }

  -- by whatever call
  pub step_stands : (r : ℕ) (call : NodeCall) (after : LiveGroup) → IsGroupStep group r call after
      → (number : ℕ) × StandsForEvents c after (live_event r number call ∷ events)
  step_stands r (Submitted d) after s = (
    0,
    stands_with (Submit r d) r s.made s.given.mail [] after (known r s.replica s.is_at)
        (submitted_made r s.replica s.is_at d s.given s.made s.does) s.replicas s.sent s.learnt,
  )
  step_stands r (Proposed k value) after s = (
    0,
    stands_with (Decide r k value) r s.made s.given.mail [] after (known r s.replica s.is_at)
        (proposed_made r s.replica s.is_at k value s.given s.made s.does) s.replicas s.sent s.learnt,
  )
  step_stands r (Received m) after s =
      let n = s.heard.0.0 in
      let tells = s.heard.0.2 in
      let has = subst (λ ms. Contains ms n) stands.told s.heard.0.1 in
      let p = IsIn_place (told_messages (replicas g) t) n (contains_IsIn (told_messages (replicas g) t) n has) in
      let to : n.to ≡ r = sym (tells_to m n tells) ∙ s.heard.1 in (
        p.0,
        stands_with (Deliver p.0) r s.made s.given.mail (learnt_set m.instance r (learnt_in s.given.said)) after
            (known r s.replica s.is_at)
            (received_made r s.replica s.is_at p.0 n p.1 to m tells s.given s.made s.does) s.replicas s.sent s.learnt,
      )

pub groups_stand : LiveGroupsStandForEvents
unfolding Reaches
groups_stand c [] group is = ([], start_stands c group is, tt)
groups_stand c (call ∷ calls) group (before, reached, step) =
    let was = groups_stand c calls before reached in
    let next = step_stands c before was.0 was.1 call.0 call.1 group step in
    (live_event call.0 next.0 call.1 ∷ was.0, next.1, ((next.0, refl), was.2))

-- ## What a group keeps

views_are : (c : Config) (group : LiveGroup) (events : Past) → StandsForEvents c group events
    → views_of group.replicas ≡ views (live_group_of c) (trace (live_group_of c) events)
views_are c group events stands =
    let g = live_group_of c in
    ap views_of stands.led.replica_states ∙ views_made g (trace g events) (range_with_len 0 (replicas g))

decisions_are : (c : Config) (group : LiveGroup) (events : Past) → StandsForEvents c group events
    → decisions_of c group.replicas ≡ decisions (live_group_of c) (trace (live_group_of c) events)
decisions_are c group events stands =
    let g = live_group_of c in
    ap (λ ms. flat_map (decisions_at ms) (range_with_len 0 c.commits)) stands.led.replica_states
    ∙ decisions_made g (trace g events)

-- of the events that it stands for
pub group_keeps : (c : Config) (group : LiveGroup) (events : Past) → StandsForEvents c group events
    → (let g = live_group_of c in
    GroupKeepsAll g events (learnt (trace g events)) (views_of group.replicas) (decisions_of c group.replicas))
group_keeps c group events s =
    let g = live_group_of c in
    subst (λ views. GroupKeepsAll g events (learnt (trace g events)) views (decisions_of c group.replicas))
    (sym (views_are c group events s))
    (trace_keeps g events (decisions_of c group.replicas)
    (subst (IsAdoptCommit events) (sym (decisions_are c group events s))
    (adopt_commit g events (few_of c [] s.config) s.led.legal)))

pub keeps_all : LiveGroupsKeepAll
keeps_all c calls group reached =
    let (events, s, are) = groups_stand c calls group reached in (events, are, group_keeps c group events s)

pub learnt_comparable_live : LiveLearntAreComparable
learnt_comparable_live c calls group reached x y has_x has_y same =
    let (events, s, are) = groups_stand c calls group reached in
    let g = live_group_of c in
    let t = trace g events in
    let p = IsIn_mapped learnt_set_of (learnt t) x (contains_IsIn _ x (subst (λ ls. Contains ls x) s.learnt has_x)) in
    let q = IsIn_mapped learnt_set_of (learnt t) y (contains_IsIn _ y (subst (λ ls. Contains ls y) s.learnt has_y)) in
    subst₂ (λ a b. AreComparable a.updates b.updates) p.2 q.2
    (learnt_comparable g events p.0 q.0 (IsIn_contains (learnt t) p.0 p.1) (IsIn_contains (learnt t) q.0 q.1)
    (ap (λ a. a.instance) p.2 ∙ same ∙ sym (ap (λ a. a.instance) q.2)))

-- the view of a replica, as the events have it
view_in_trace : (c : Config) (group : LiveGroup) (events : Past) → StandsForEvents c group events → (n : ReplicaState)
    → Contains group.replicas n → (r : ℕ) × (trace_view (trace (live_group_of c) events) r ≡ n.view)
unfolding replica_state
view_in_trace c group events stands n has =
    let p = IsIn_place group.replicas n (contains_IsIn group.replicas n has) in
    (p.0, sym (ap (λ (m : ReplicaState). m.view) (is_state c group events stands p.0 n p.1)))

-- ### Calls lead to one group

same_step : (a b : LiveGroup) (r : ℕ) (call : NodeCall) (before other : LiveGroup) → before ≡ other
    → IsGroupStep before r call a → IsGroupStep other r call b → a ≡ b
same_step a b r call before other same s z =
    let at : s.replica ≡ z.replica =
    same_Some _ _ (sym s.is_at ∙ ap (λ (h : LiveGroup). slice_get h.replicas r) same ∙ z.is_at) in
    let both = same_Some _ _ (sym s.does ∙ ap (λ q. node_step q call) at ∙ z.does) in
    let states : a.replicas ≡ b.replicas =
    s.replicas ∙ ap₂ (λ (h : LiveGroup) (p : Given × ReplicaState). slice_set h.replicas r p.1) same both
    ∙ sym z.replicas in
    let sent_same : a.sent ≡ b.sent =
    s.sent ∙ ap₂ (λ (h : LiveGroup) (p : Given × ReplicaState). h.sent ++ p.0.mail) same both ∙ sym z.sent in
    let learnt_same : a.learnt ≡ b.learnt =
    s.learnt ∙ ap₂ (λ (h : LiveGroup) (p : Given × ReplicaState). h.learnt ++ learnt_by_call r call p.0.said) same both
    ∙ sym z.learnt in
    λ j. record { replicas = states j; sent = sent_same j; learnt = learnt_same j }

pub same_group : (c : Config) (calls : List (ℕ × NodeCall)) (a b : LiveGroup) → Reaches c calls a → Reaches c calls b
    → a ≡ b
unfolding Reaches
same_group c [] a b s z =
    let states : a.replicas ≡ b.replicas = s.replicas ∙ sym z.replicas in
    let sent_same : a.sent ≡ b.sent = s.sent ∙ sym z.sent in
    let learnt_same : a.learnt ≡ b.learnt = s.learnt ∙ sym z.learnt in
    λ j. record { replicas = states j; sent = sent_same j; learnt = learnt_same j }
same_group c (call ∷ calls) a b (before, reached, s) (other, also, z) =
    same_step a b call.0 call.1 before other (same_group c calls before other reached also) s z

-- a group, and one to which more calls lead from it: of the second's events the older ones are the first's
pub record ComesLater (c : Config) (more calls : List (ℕ × NodeCall)) (after : LiveGroup) : Type 0 where
  pub middle : LiveGroup
  pub reached : Reaches c calls middle
  pub events : Past
  pub newer : Past
  pub are : AreEventsOf calls events
  pub newer_are : AreEventsOf more newer
  pub stood : StandsForEvents c middle events
  pub stands : StandsForEvents c after (newer ++ events)

pub comes_later : (c : Config) (more calls : List (ℕ × NodeCall)) (after : LiveGroup) → Reaches c (more ++ calls) after
    → ComesLater c more calls after
unfolding Reaches
comes_later c [] calls after reached =
    let s = groups_stand c calls after reached in
    record {
      middle = after;
      reached = reached;
      events = s.0;
      newer = [];
      are = s.2;
      newer_are = tt;
      stood = s.1;
      stands = s.1;
    }
comes_later c (call ∷ more) calls after (before, reached, step) =
    let h = comes_later c more calls before reached in
    let next = step_stands c before (h.newer ++ h.events) h.stands call.0 call.1 after step in
    record {
      middle = h.middle;
      reached = h.reached;
      events = h.events;
      newer = live_event call.0 next.0 call.1 ∷ h.newer;
      are = h.are;
      newer_are = ((next.0, refl), h.newer_are);
      stood = h.stood;
      stands = next.1;
    }

pub views_comparable_live : LiveViewsAreComparable
views_comparable_live c more calls before after m n reached later has_m has_n =
    let g = live_group_of c in
    let h = comes_later c more calls after later in
    let same = same_group c calls before h.middle reached h.reached in
    let all = h.newer ++ h.events in
    let past : drop (length h.newer) all ≡ h.events = drop_at h.newer h.events (length h.newer) refl in
    let p = view_in_trace c h.middle h.events h.stood m (subst (λ (k : LiveGroup). Contains k.replicas m) same has_m) in
    let q = view_in_trace c after all h.stands n has_n in
    subst₂ AreComparable (ap (λ es. trace_view (trace g es) p.0) past ∙ p.1) q.1
    (views_comparable g all (length h.newer) 0 p.0 q.0)

-- ## What a program holds

pub comparable_from : {A : Type 0} (some : ∥ A ∥₁) (a b : Histories) → (A → AreComparable a b) → AreComparable a b
comparable_from some a b f = go (is_subset a b) refl (is_subset b a) refl
  where
    go : (v : Bool) → is_subset a b ≡ v → (w : Bool) → is_subset b a ≡ w → AreComparable a b
    go true e w k = inl ((is_subset-Decides a b).0 e)
    go false e true k = inr ((is_subset-Decides b a).0 k)
    go false e false k = absurd (∥∥₁_elim some (hlevel) (λ x. neither e k (f x)))
      where
        neither : is_subset a b ≡ false → is_subset b a ≡ false → AreComparable a b → ⊥
        neither e k (inl le) = false≢true (sym e ∙ (is_subset-Decides a b).1 le)
        neither e k (inr ge) = false≢true (sym k ∙ (is_subset-Decides b a).1 ge)

replica_among : (nodes : List NodeState) (n : NodeState) → Contains nodes n → Contains (replicas_of nodes) n.replica
replica_among nodes n has =
    let p = IsIn_place nodes n (contains_IsIn nodes n has) in
    IsIn_contains (replicas_of nodes) n.replica
    (IsIn_get (replicas_of nodes) p.0 n.replica (get_mapped (λ (z : NodeState). z.replica) nodes p.0 n p.1))

pub one_history : LiveNodesAreOneHistory
one_history nodes network live m n has_m has_n = comparable_from live m.replica.view n.replica.view (λ is.
    let state : (k : NodeState) → Contains nodes k
    → Contains is.group.replicas k.replica = λ k has. subst (λ rs. Contains rs k.replica) (sym is.replicas)
    (replica_among nodes k has) in
    views_comparable_live is.config [] is.calls is.group is.group m.replica n.replica is.reached is.reached
    (state m has_m) (state n has_n))

pub new_live : NewNodesAreLive
unfolding Reaches
new_live c nodes config are = ∣ record {
  config = c;
  calls = [];
  group = record { replicas = replicas_of nodes; sent = []; learnt = [] };
  reached = record { config = config; replicas = are; sent = refl; learnt = refl };
  replicas = refl;
  sent = λ m has. absurd (Contains-none m has);
} ∣₁

-- what is told again of what is told again
pub retold_of : (sent network : List code.Message) → AreRetold network sent → (m : code.Message) → IsAmong m network
    → IsRetold m sent
retold_of sent network retold m near =
    let far = retold near.0 near.1 in (far.0, far.1, alike_tells m near.0 far.0 near.2 far.2)

pub loses_live : NetworksMayLose
loses_live nodes network left live within = ∥∥₁_map live (λ is. record {
  config = is.config;
  calls = is.calls;
  group = is.group;
  reached = is.reached;
  replicas = is.replicas;
  sent = λ m has. retold_of is.group.sent network is.sent m (within m has);
})

-- a call that is heard by the network is by the group
heard_of : (sent network : List code.Message) (r : ℕ) (call : NodeCall) → AreRetold network sent
    → IsHeard (λ m. IsAmong m network) r call → IsHeard (λ m. IsRetold m sent) r call
heard_of sent network r (Submitted d) retold heard = tt
heard_of sent network r (Proposed k value) retold heard = tt
heard_of sent network r (Received m) retold heard = (retold_of sent network retold m heard.0, heard.1)

-- one call more, by which this is sent
pub one_more : (nodes : List NodeState) (network mail : List code.Message) (r : ℕ) (node made : NodeState)
    (call : NodeCall)
    (given : Given) → (is : IsReached nodes network) → slice_get nodes r ≡ Some node
    → IsHeard (λ m. IsRetold m is.group.sent) r call
    → node_step node.replica call ≡ Some (given, made.replica) → AreRetold mail given.mail
    → IsReached (slice_set nodes r made) (network ++ mail)
unfolding Reaches
one_more nodes network mail r node made call given is at heard does retold =
    let before = is.group in
    let after : LiveGroup = record { replicas = slice_set before.replicas r made.replica; sent = before.sent ++ given.mail; learnt = before.learnt ++ learnt_by_call r call given.said } in
    record {
      config = is.config;
      calls = (r, call) ∷ is.calls;
      group = after;
      reached = (
        before,
        is.reached,
        record {
          replica = node.replica;
          is_at = ap (λ rs. slice_get rs r) is.replicas ∙ get_mapped (λ (z : NodeState). z.replica) nodes r node at;
          heard = heard;
          given = given;
          made = made.replica;
          does = does;
          replicas = refl;
          sent = refl;
          learnt = refl;
        },
      );
      replicas =
          ap (λ rs. slice_set rs r made.replica) is.replicas
          ∙ sym (map-set (λ (z : NodeState). z.replica) nodes r made);
      sent = λ m has. elim (Contains-append_cases network mail m has) [
        | inl was ↦ let a = is.sent m was in (a.0, Contains-append_left before.sent given.mail a.0 a.1, a.2)
        | inr new ↦ let a = retold m new in (a.0, Contains-append_right before.sent given.mail a.0 a.1, a.2)
      ];
    }

pub calls_live : CallsKeepLive
calls_live nodes network mail r node made call given live at heard does retold =
    ∥∥₁_map live
    (λ is.
    one_more nodes network mail r node made call given is at
    (heard_of is.group.sent network r call is.sent heard) does retold)

-- ## Calls whose mail is lost

-- nodes with the same replicas
same_live : (nodes others : List NodeState) (network : List code.Message) → replicas_of nodes ≡ replicas_of others
    → AreLive nodes network → AreLive others network
same_live nodes others network same live = ∥∥₁_map live (λ is. record {
  config = is.config;
  calls = is.calls;
  group = is.group;
  reached = is.reached;
  replicas = is.replicas ∙ same;
  sent = is.sent;
})

pub put_put : {A : Type 0} (xs : List A) (k : ℕ) (x y : A) → slice_set (slice_set xs k x) k y ≡ slice_set xs k y
put_put [] k x y = refl
put_put (z ∷ xs) zero x y = refl
put_put (z ∷ xs) (suc k) x y = ap (λ ys. z ∷ ys) (put_put xs k x y)

nothing_after : (calls : List NodeCall) (after : ReplicaState)
    → fold (λ o call. option_and_then (λ s. after_call s call) o) None calls ≡ Some after → ⊥
nothing_after [] after e = none-some after e
nothing_after (call ∷ calls) after e = nothing_after calls after e

lost : (nodes : List NodeState) (network : List code.Message) (r : ℕ) (node made : NodeState) (call : NodeCall)
    → AreLive nodes network → slice_get nodes r ≡ Some node → IsHeard (λ m. IsAmong m network) r call
    → after_call node.replica call ≡ Some made.replica → AreLive (slice_set nodes r made) network
lost nodes network r node made call live at heard e =
    let x = some_of (λ (p : Given × ReplicaState). p.1) (node_step node.replica call) made.replica e in
    subst (AreLive (slice_set nodes r made)) (append-nil network)
    (calls_live nodes network [] r node made call x.0.0 live at heard (x.1 ∙ ap (λ s. Some (x.0.0, s)) x.2)
    (λ m has. absurd (Contains-none m has)))

module _ (network : List code.Message) (r : ℕ) where
  -- what these calls keep
  abbrev Keep : List NodeCall → Type 0
  Keep calls =
      (nodes : List NodeState) (node made : NodeState) → AreLive nodes network → slice_get nodes r ≡ Some node
      → ((call : NodeCall) → Contains calls call → IsHeard (λ m. IsAmong m network) r call)
      → after_calls node.replica calls ≡ Some made.replica → AreLive (slice_set nodes r made) network

  one_lost : (call : NodeCall) (calls : List NodeCall) → Keep calls → (nodes : List NodeState) (node made : NodeState)
      → AreLive nodes network → slice_get nodes r ≡ Some node
      → ((other : NodeCall) → Contains (call ∷ calls) other → IsHeard (λ m. IsAmong m network) r other)
      → (o : Option ReplicaState) → after_call node.replica call ≡ o
      → fold (λ o call. option_and_then (λ s. after_call s call) o) o calls ≡ Some made.replica
      → AreLive (slice_set nodes r made) network
  one_lost call calls keep nodes node made live at heard None is h = absurd (nothing_after calls made.replica h)
  one_lost call calls keep nodes node made live at heard (Some next) is h =
      let mid : NodeState = record { replica = next; shelf = node.shelf } in
      subst (λ ns. AreLive ns network) (put_put nodes r mid made)
      (keep (slice_set nodes r mid) mid made
      (lost nodes network r node mid call live at (heard call (0, omega arith, refl)) is) (get_put nodes r node mid at)
      (λ other has. heard other (Contains-append_right (call ∷ []) calls other has)) h)

  pub many_lost : (calls : List NodeCall) → Keep calls
  many_lost [] nodes node made live at heard e =
      let state = λ (z : NodeState). z.replica in
      let same : made.replica ≡ node.replica = sym (same_Some node.replica made.replica e) in
      same_live nodes (slice_set nodes r made) network
      (sym
      (map-set state nodes r made ∙ ap (slice_set (replicas_of nodes) r) same
      ∙ set_same (replicas_of nodes) r node.replica (get_mapped state nodes r node at))) live
  many_lost (call ∷ calls) nodes node made live at heard e =
      one_lost call calls (many_lost calls) nodes node made live at heard (after_call node.replica call) refl e

pub unheard_live : UnheardCallsKeepLive
unheard_live nodes network r node made calls live at heard e = many_lost network r calls nodes node made live at heard e
