-- A world that stands for a list of events, and the world after one event more.
use Rattle.std.proofs.Common.{◌≡◌, ◌≢◌, ℕ, ◌+◌, ◌<◌, ◌≤◌, false, cond, List, [], ◌∷◌, ◌++◌, length, map, slice_get, slice_set, All, Option, Some, None, option_map, option_and_then, refl, ap, ap₂, sym, ◌∙◌, subst, arith}
use Rattle.std.proofs.lemmas.Option.{same_Some, none-some, slice_get_within, get_or_from_slice_get}
use Rattle.std.proofs.lemmas.List.{map-append}
use Rattle.la_set.specs.ObjectOps.{ObjectOp}
use Rattle.la_set.specs.Histories.{Histories, empty}
use Rattle.la_set.specs.Inclusion.{IsSubset}
use Rattle.la_set.proofs.lemmas.Inclusions.{subset-trans}
use Rattle.la_object.specs.declared.kind.Kind.{Kind}
use Rattle.la_object.specs.Shelves.{ShelfState}
use Rattle.la_replica.specs.declared.message.Message as code
use Rattle.la_replica.specs.Whole.{Message, Out, whole_of, whole_mail, CarryAll}
use Rattle.la_replica.specs.Messages.{group}
use Rattle.la_replica.specs.Steps.{learnt_in}
use Rattle.la_replica.specs.ReplicaState as acting
use Rattle.la_replica.specs.ReplicaState.{ReplicaState, start}
use Rattle.la_node.specs.declared.config.Config.{Config}
use Rattle.la_world.specs.declared.speaker.Speaker.{Speaker}
use Rattle.la_world.specs.declared.step.Opening.{Opening}
use Rattle.la_node.specs.Configs.{IsConfig}
use Rattle.la_world.specs.Groups.{Group, group_of, replicas}
use Rattle.la_world.specs.Events.{Event, Deliver}
use Rattle.la_world.specs.Trace as did
use Rattle.la_world.specs.Trace.{Did, Entry, Trace}
use Rattle.la_world.specs.Sent.{sent_at, sent}
use Rattle.la_world.specs.Told.{sent_as_told, told_messages}
use Rattle.la_world.specs.Ballots.{opened_by, opening_learnt, round, is_open}
use Rattle.la_world.specs.Submissions.{submitted_ops, second_vote_after}
use Rattle.la_commit.specs.Outcomes.{outcome_in}
use Rattle.la_world.specs.Outcomes.{outcome_learnt}
use Rattle.la_world.specs.Shown.{shown_by, submitter}
use Rattle.la_world.specs.Playing.{ballot_opened_next, opens_or_waits, does_submit, does_receive, event_entry, trace}
use Rattle.la_world.specs.Learnings.{learning_of, learnt}
use Rattle.la_world.specs.Report.{refused, shown_as}
use Rattle.la_world.specs.ReplicaStates.{replica_state, replica_states}
use Rattle.la_world.specs.Views.{trace_view}
use Rattle.la_world.specs.StandsFor.{IsLegalTrace, World, kinds_of, group_in, AreBehind, EventsLeadTo, StandsFor}
use Rattle.la_world.specs.Calls.{IsWorldGroup, replica_states_at_start, IsEventSubmission}
use Rattle.la_world.proofs.Lists.{AllIn, AllIn-right, get_made}
use Rattle.la_world.proofs.InGroup.{IsBetween, grouped}
use Rattle.la_world.proofs.Tellings.{told_at_carries}
use Rattle.la_world.proofs.ToldMail.{sent_sides}
use Rattle.la_world.proofs.Deliverable.{IsDeliverableAt}
use Rattle.la_world.proofs.Delivered.{told_deliverable}
use Rattle.la_world.specs.ReplicaStates.{instance_of}
use Rattle.la_world.proofs.GrowingViews.{view_more}
use Rattle.la_world.proofs.LargestViews.{empty_least}
use Rattle.la_world.proofs.OneReplicaSteps.{replica_state-else, replica_states-set}
use Rattle.la_node.specs.Taking.{Taken, without_vote, takes}
use Rattle.la_world.specs.Following.{did_say, voted_with, voted_by, receipt_taken}
use Rattle.la_replica.specs.Fitting.{FitsReceiver}
use Rattle.la_world.proofs.EventCases.{entry_of}
use Rattle.la_world.proofs.SubmissionEvents.{submission_entry, submission_replica, submission_instance}
use Rattle.la_world.proofs.Legal.{legal_submits, legal_between, entry_delivers, opens_in, is_answer, IsPlaced, delivery_steps, delivery_placed}
use Rattle.la_world.proofs.RefusedForMemory.{delivery_fits}
use Rattle.la_world.proofs.lemmas.Starting.{replica_state_at_start}
use Rattle.la_world.proofs.StoredMessages.{message_at}
use Rattle.la_world.proofs.Shown.{SpeaksOf, shown_is, learnt_number, length_trace}

-- what an event sends is between replicas of the group
pub sent_between : (g : Group) (events : List Event) (e : Event) → refused g (trace g events) e ≡ None
    → IsLegalTrace g events → AllIn (IsBetween g) (sent_at (replicas g) (event_entry g (trace g events) e))
unfolding trace sent
sent_between g events e allowed legal =
    AllIn-right (IsBetween g) (sent (replicas g) (trace g events))
    (sent_at (replicas g) (event_entry g (trace g events) e)) (grouped g (e ∷ events) (allowed, legal)).messages

-- a submission, as a replica takes a message
abbrev pub submission : Option (Out × ReplicaState) → Option (Taken × ReplicaState)
submission made = option_map (λ (p : Out × ReplicaState). (without_vote p.0, p.1)) made

pub few_of : (c : Config) (kinds : List (List (ℕ × Kind))) → IsConfig c → replicas (group_of c kinds) ≤ 8
few_of c kinds is = let a = is.group.replicas in let b = is.group.few in omega arith

-- ## The start

abbrev pub world_at_start : Config → List ShelfState → World
world_at_start c shelves = record { config = c; replica_states = replica_states_at_start c; shelves = shelves; messages = []; learnt = []; count = 0 }

same_made : {A : Type 0} (f h : ℕ → A) → ((q : ℕ) → f q ≡ h q) → (xs : List ℕ) → map f xs ≡ map h xs
same_made f h e [] = refl
same_made f h e (x ∷ xs) = ap₂ (λ y ys. y ∷ ys) (e x) (same_made f h e xs)

-- what has absorbed nothing is behind
unused_behind : (shelves : List ShelfState) (t : Trace) → All (λ (s : ShelfState). s.view ≡ empty) shelves
    → AreBehind shelves t
unused_behind shelves t unused r s found =
    subst (λ v. IsSubset v (trace_view t r))
    (sym
    (subst (λ (z : ShelfState). z.view ≡ empty) (get_or_from_slice_get shelves r s s found)
    (unused r s (slice_get_within shelves r s found)))) (empty_least (trace_view t r))

pub states_at_start : (c : Config) (kinds : List (List (ℕ × Kind)))
    → replica_states_at_start c ≡ replica_states (group_of c kinds) []
states_at_start c kinds =
    let g = group_of c kinds in
    sym
    (same_made (replica_state g []) (λ r. start g.votes r c.cap c.commits) (replica_state_at_start g)
    (group (replicas g)))

pub led_at_start : (g : Group) (states : List ReplicaState) (messages : List Message) → states ≡ replica_states g []
    → messages ≡ [] → EventsLeadTo g [] states messages
unfolding trace sent
led_at_start g states messages are none = record { legal = tt; replica_states = are; sent = none }

pub stands_at_start : (c : Config) (shelves : List ShelfState) → IsWorldGroup c shelves
    → StandsFor (world_at_start c shelves) []
unfolding trace sent told_messages learnt
stands_at_start c shelves is = record {
  config = is.config;
  told = refl;
  led = led_at_start (group_of c (kinds_of shelves)) _ [] (states_at_start c (kinds_of shelves)) refl;
  shelves = is.one_each;
  absorbed = unused_behind shelves [] is.unused;
  learnt = refl;
  count = refl;
}

-- ## What an event learns

pub submits_learns : (t : Trace) (i r : ℕ) (object_op : ObjectOp) → opening_learnt (does_submit t i r object_op) ≡ None
unfolding does_submit
submits_learns t i r object_op =
    go (cond (is_open t i r) None (ballot_opened_next (round t i r) (submitted_ops t i r ++ object_op ∷ [])))
  where
    go : (o : Option Opening) → opening_learnt (opens_or_waits r (length (submitted_ops t i r ++ object_op ∷ [])) o) ≡ None
    go None = refl
    go (Some b) = refl

-- what a replica says that it learnt
pub learnt_said : (d : Did) → learnt_in (did_say d) ≡ option_map (λ (b : Opening). b.updates) (opening_learnt d)
learnt_said (did.Learnt b next) = refl
learnt_said (did.Opened b) = refl
learnt_said (did.Held id) = refl
learnt_said (did.Answered reply) = refl
learnt_said did.Counted = refl
learnt_said did.Ignored = refl
learnt_said (did.Refined b) = refl
learnt_said (did.Took s) = refl
learnt_said did.Kept = refl
learnt_said (did.Replied answer) = refl

-- ## One event more

-- where all replicas but one stay as they were
pub led_on : (g : Group) (events : List Event) (states : List ReplicaState) (messages : List Message) → EventsLeadTo g events states messages → (e : Event) (r : ℕ) (made : ReplicaState) (mail : List Message) → let t = trace g events in
    refused g t e ≡ None → ((q : ℕ) → q ≢ r → replica_state g (event_entry g t e ∷ t) q ≡ replica_state g t q)
    → r < replicas g → made ≡ replica_state g (event_entry g t e ∷ t) r → mail ≡ sent_at (replicas g) (event_entry g t e)
    → EventsLeadTo g (e ∷ events) (slice_set states r made) (messages ++ mail)
unfolding trace sent
led_on g events states messages led e r made mail allowed others lt is mails =
    let t = trace g events in
    record {
      legal = (allowed, led.legal);
      replica_states =
          ap₂ (λ ms m. slice_set ms r m) led.replica_states is ∙ sym (replica_states-set g (event_entry g t e) t r others);
      sent = ap₂ (λ xs ys. xs ++ ys) led.sent mails;
    }

-- with this replica, these messages more and what was learnt
abbrev pub world_after : World → (r : ℕ) → ReplicaState → List code.Message → Did → World
world_after w r m mail did = record { config = w.config; replica_states = slice_set w.replica_states r m; shelves = w.shelves; messages = w.messages ++ mail; learnt = w.learnt ++ learning_of w.count (opening_learnt did); count = w.count + 1 }

-- a replica of this world that submits in i
abbrev pub submitter_speaks : World → (i r : ℕ) → Speaker
submitter_speaks w i r = submitter w.config.replicas i r

-- and one that receives this message, and learns this by it
abbrev pub receiver_speaks : World → code.Message → (copy : Option Histories) → Speaker
receiver_speaks w m copy = record {
  replicas = w.config.replicas;
  replica = m.to;
  instance = m.instance;
  ballot = m.ballot;
  outcome = option_and_then (outcome_in m.instance m.to) copy;
}

module _ (w : World) (events : List Event) (stands : StandsFor w events) where
  abbrev g : Group
  g = group_in w

  abbrev t : Trace
  t = trace g events

  pub get_replica_state : (r : ℕ) → r < replicas g → slice_get w.replica_states r ≡ Some (replica_state g t r)
  get_replica_state r lt =
      ap (λ ms. slice_get ms r) stands.led.replica_states
      ∙ get_made (replica_state g t) 0 (replicas g) r r lt (omega arith)

  count_is : w.count ≡ length t
  count_is = stands.count ∙ sym (length_trace g events)

  -- a kept message carries the one that was sent
  pub get_message : (k : ℕ) (m : code.Message) → slice_get w.messages k ≡ Some m
      → slice_get (sent (replicas g) t) k ≡ Some (whole_of m)
  get_message k m stored =
      sym (message_at w.messages (sent (replicas g) t) k stands.led.sent) ∙ ap (option_map whole_of) stored

  -- and is told as the trace says
  pub get_told : (k : ℕ) (m : code.Message) → slice_get w.messages k ≡ Some m
      → slice_get (told_messages (replicas g) t) k ≡ Some m
  get_told k m stored = sym (ap (λ ms. slice_get ms k) stands.told) ∙ stored

  pub stands_after : (e : Event) (r : ℕ) → refused g t e ≡ None
      → ((q : ℕ) → q ≢ r → replica_state g (event_entry g t e ∷ t) q ≡ replica_state g t q) → r < replicas g
      → (mail : List code.Message) → mail ≡ sent_as_told (replicas g) (event_entry g t e) t
      → StandsFor (world_after w r (replica_state g (event_entry g t e ∷ t) r) mail (event_entry g t e).did) (e ∷ events)
  unfolding trace told_messages learnt
  stands_after e r allowed others lt mail is =
      let x = event_entry g t e in
      let carry : CarryAll mail (sent_at (replicas g) x) = ap whole_mail is ∙ told_at_carries (replicas g) x t in
      let states = slice_set w.replica_states r (replica_state g (x ∷ t) r) in
      record {
        config = stands.config;
        led =
            subst (EventsLeadTo g (e ∷ events) states) (sym (map-append whole_of w.messages mail))
            (led_on g events w.replica_states (whole_mail w.messages) stands.led e r _ (whole_mail mail) allowed others
            lt refl carry);
        told = ap₂ (λ xs ys. xs ++ ys) stands.told is;
        shelves = stands.shelves;
        absorbed =
            λ q s found. subset-trans s.view (trace_view t q) (trace_view (x ∷ t) q) (stands.absorbed q s found) (view_more x t q);
        learnt = ap₂ (λ ls n. ls ++ learning_of n (opening_learnt x.did)) stands.learnt count_is;
        count = let c = stands.count in omega arith;
      }

  few : replicas g ≤ 8
  few = few_of w.config (kinds_of w.shelves) stands.config

  -- what one event comes to, where this is what its replica makes of it and tells
  pub record PlaysTo (e : Event) (by : Speaker) (made : Option (Taken × ReplicaState)) : Type 0 where
    pub in_group : by.replica < replicas g
    pub step : made ≡ Some (receipt_taken (replicas g) (event_entry g t e), replica_state g (event_entry g t e ∷ t) by.replica)
    pub shown : shown_by by w.count (did_say (event_entry g t e).did) (voted_by (event_entry g t e).did)
        ≡ shown_as (replicas g) (length t) (event_entry g t e).did
    pub sides : AllIn (λ (m : Message). (m.from ≡ by.replica) × (m.to < 8)) (sent_at (replicas g) (event_entry g t e))
    pub between : AllIn (IsBetween g) (sent_at (replicas g) (event_entry g t e))
    pub after : (mail : List code.Message) → mail ≡ sent_as_told (replicas g) (event_entry g t e) t
        → StandsFor (world_after w by.replica (replica_state g (event_entry g t e ∷ t) by.replica) mail (event_entry g t e).did)
        (e ∷ events)

  -- a speaker of this world that speaks of an event
  shown_so : (by : Speaker) (d : Did) → by.replicas ≡ w.config.replicas → SpeaksOf by d
      → shown_by by w.count (did_say d) (voted_by d) ≡ shown_as (replicas g) (length t) d
  shown_so by d n h =
      shown_is by w.count d h ∙ ap₂ (λ k place. shown_as k place d) (n ∙ stands.config.group.replicas) count_is

  submits_plain : (i r : ℕ) (object_op : ObjectOp) → is_answer (does_submit t i r object_op) ≡ false
  unfolding does_submit
  submits_plain i r object_op =
      go (cond (is_open t i r) None (ballot_opened_next (round t i r) (submitted_ops t i r ++ object_op ∷ [])))
    where
      go : (o : Option Opening) → is_answer (opens_or_waits r (length (submitted_ops t i r ++ object_op ∷ [])) o) ≡ false
      go None = refl
      go (Some b) = refl

  pub submission_plays : (e : Event) (i r : ℕ) (object_op : ObjectOp) → IsEventSubmission e i r object_op
      → refused g t e ≡ None
      → PlaysTo e (submitter_speaks w i r) (submission (acting.submits (replica_state g t r) i object_op))
  submission_plays e i r object_op by allowed =
      let lt = submission_replica g t i r object_op e by allowed in
      let h =
      legal_submits g events stands.led.legal few e i r object_op by
      (submission_instance g t i r object_op e by allowed) lt in
      let d = does_submit t i r object_op in
      let x : Entry = entry_of e None d in
      let same : event_entry g t e ≡ x = submission_entry g t i r object_op e by in
      let others : (q : ℕ) → q ≢ r → replica_state g (event_entry g t e ∷ t) q ≡ replica_state g t q =
      subst (λ (y : Entry). (q : ℕ) → q ≢ r → replica_state g (y ∷ t) q ≡ replica_state g t q) (sym same)
      (λ q ne. replica_state-else g x t i r q h.concerns ne) in
      let none = submits_learns t i r object_op in
      let voted : voted_by d ≡ None = ap (λ o. voted_with (opened_by d) (second_vote_after o)) none in
      record {
        in_group = lt;
        step =
            subst
            (λ (y : Entry).
            submission (acting.submits (replica_state g t r) i object_op)
            ≡ Some (receipt_taken (replicas g) y, replica_state g (y ∷ t) r)) (sym same)
            (ap submission h.step ∙ ap (λ v. Some (record { said = did_say d; voted = v; mail = sent_at (replicas g) x }, replica_state g (x ∷ t) r)) (sym voted));
        shown =
            subst
            (λ (y : Entry).
            shown_by (submitter_speaks w i r) w.count (did_say y.did) (voted_by y.did)
            ≡ shown_as (replicas g) (length t) y.did) (sym same)
            (shown_so (submitter_speaks w i r) d refl (record {
              opened = λ b f. (h.concerns.opened b f).replica;
              here = λ b f unvoted. (h.concerns.opened b f).instance;
              learnt = λ b f. absurd (none-some b (sym none ∙ f));
              number = λ b f. absurd (none-some b (sym none ∙ f));
              outcome = λ b f. absurd (none-some b (sym none ∙ f));
              no_answer = submits_plain i r object_op;
            }));
        sides =
            subst (λ (y : Entry). AllIn (λ (m : Message). (m.from ≡ r) × (m.to < 8)) (sent_at (replicas g) y)) (sym same)
            (sent_sides (replicas g) r None d few (λ b f. (h.concerns.opened b f).replica)
            (λ b f. absurd (none-some b (sym none ∙ f))) (λ m f. absurd (none-some m f)));
        between = sent_between g events e allowed stands.led.legal;
        after = stands_after e r allowed others lt;
      }

  -- ## A delivery

  -- a kept message is to a replica of the group
  pub receiver_in_group : (k : ℕ) (m : code.Message) → slice_get w.messages k ≡ Some m → m.to < replicas g
  receiver_in_group k m stored = (legal_between g events stands.led.legal k (whole_of m) (get_message k m stored)).to

  pub delivery_step : (k : ℕ) (m : code.Message) → slice_get w.messages k ≡ Some m → refused g t (Deliver k) ≡ None
      → takes (replica_state g t m.to) (whole_of m)
      ≡ Some (receipt_taken (replicas g) (event_entry g t (Deliver k)), replica_state g (event_entry g t (Deliver k) ∷ t) m.to)
  delivery_step k m stored allowed =
      (delivery_steps g events k (whole_of m) few stands.led.legal (get_message k m stored)).step

  -- of the kept message with this number, where its receiver learns this by it
  pub delivery_plays : (k : ℕ) (m : code.Message) → slice_get w.messages k ≡ Some m → refused g t (Deliver k) ≡ None
      → (copy : Option Histories) → copy ≡ learnt_in (did_say (event_entry g t (Deliver k)).did)
      → PlaysTo (Deliver k) (receiver_speaks w m copy) (takes (replica_state g t m.to) (whole_of m))
  delivery_plays k m stored allowed copy kept =
      let v = whole_of m in
      let is : slice_get (sent (replicas g) t) k ≡ Some v = get_message k m stored in
      let h = delivery_steps g events k v few stands.led.legal is in
      let placed = delivery_placed g events stands.led.legal few k v is in
      let lt = (legal_between g events stands.led.legal k v is).to in
      let same : (event_entry g t (Deliver k)).did ≡ does_receive g t (Some v) =
      ap (λ (y : Entry). y.did) (entry_delivers g t k v is) in
      let d = does_receive g t (Some v) in
      let by = receiver_speaks w m copy in
      let learnt_copy : copy ≡ option_map (λ (b : Opening). b.updates) (opening_learnt d) =
      kept ∙ ap (λ y. learnt_in (did_say y)) same ∙ learnt_said d in
      record {
        in_group = lt;
        step = h.step;
        shown =
            subst (λ y. shown_by by w.count (did_say y) (voted_by y) ≡ shown_as (replicas g) (length t) y) (sym same)
            (shown_so by d refl (record {
              opened = λ b f. (placed.opened b f).replica;
              here = λ b f unvoted. (placed.opened b f).instance ∙ ap (opens_in m.instance) unvoted;
              learnt = placed.learnt;
              number = λ b f. learnt_number g t v b f;
              outcome = λ b f. outcome_so m copy d placed learnt_copy b f;
              no_answer = placed.no_answer;
            }));
        sides =
            subst (λ (y : Entry). AllIn (λ (n : Message). (n.from ≡ m.to) × (n.to < 8)) (sent_at (replicas g) y))
            (sym (entry_delivers g t k v is))
            (sent_sides (replicas g) m.to (Some v) d few (λ b f. (placed.opened b f).replica) (λ b f. (placed.learnt b f).replica)
            (λ n f. let one = same_Some v n f in (ap (λ (z : Message). z.to) (sym one), subst (λ (z : Message). z.from < replicas g) one (legal_between g events stands.led.legal k v is).from)));
        between = sent_between g events (Deliver k) allowed stands.led.legal;
        after = stands_after (Deliver k) m.to allowed h.others lt;
      }
    where
      outcome_so : (m : code.Message) (copy : Option Histories) (d : Did) → IsPlaced m.instance m.to d
          → copy ≡ option_map (λ (b : Opening). b.updates) (opening_learnt d) → (b : Opening) → opening_learnt d ≡ Some b
          → option_and_then (outcome_in m.instance m.to) copy ≡ outcome_learnt b
      outcome_so m copy d placed c b f =
          let of = placed.learnt b f in
          ap (option_and_then (outcome_in m.instance m.to)) (c ∙ ap (option_map (λ (b : Opening). b.updates)) f)
          ∙ ap₂ (λ j q. outcome_in j q b.updates) (sym of.instance) (sym of.replica)

  -- a kept message fits its receiver
  pub message_fits : (k : ℕ) (m : code.Message) → slice_get w.messages k ≡ Some m
      → FitsReceiver (replica_state g t m.to) (whole_of m)
  message_fits k m stored =
      (delivery_fits g events k (whole_of m) few stands.config.group.cap_most stands.led.legal (get_message k m stored)).0

  -- a kept message stands at its receiver for what was sent
  pub deliverable : (k : ℕ) (m : code.Message) → slice_get w.messages k ≡ Some m
      → IsDeliverableAt (instance_of g t m.to m.instance) m
  deliverable k m stored =
      told_deliverable g events stands.led.legal stands.config.group.cap_most k m (get_told k m stored)
