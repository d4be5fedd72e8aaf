-- What the calls of a node come to, as steps of the machine.
use Rattle.std.proofs.Common.{◌≡◌, ◌≢◌, ◌⊎◌, ℕ, Bool, true, false, cond, eqb, ◌&&◌, length, slice_get, Option, Some}
use Rattle.std.proofs.Common.{None, IsSomeAnd, option_map, option_and_then, refl, sym, ap, ap₂, ◌∙◌, inl, inr}
use Rattle.std.proofs.lemmas.Bool.{eq-eqb, eqb-true, false_from_ne_true, cases_Bool}
use Rattle.la_set.specs.declared.update.Op.{Op}
use Rattle.la_set.specs.Deltas.{DeltaState}
use Rattle.la_set.specs.Histories.{Histories}
use Rattle.la_proposer.specs.ProposerState.{counts, op_on}
use Rattle.la_replica.specs.declared.error.ReplicaError.{ReplicaError}
use Rattle.la_replica.specs.declared.error.ReplicaError.TheVariants as replica
use Rattle.la_replica.specs.declared.instance.Instance.{Instance}
use Rattle.la_replica.specs.declared.message.Message as code
use Rattle.la_replica.specs.declared.message.Body as code_body
use Rattle.la_replica.specs.declared.message.Body.TheVariants as body
use Rattle.la_replica.specs.Alike.{AreAlike, AreAlikeBodies}
use Rattle.la_replica.specs.declared.parcel.Parcel.{Parcel}
use Rattle.la_replica.specs.declared.parcel.Content.{Content}
use Rattle.la_replica.specs.declared.parcel.Content.TheVariants as content
use Rattle.la_replica.specs.Parcels.{view_of, unwrapped_body, unwrapped_in, Unwraps, UnwrapsIn, IsShut}
use Rattle.la_replica.specs.Parcels.{IsUnwrapRefusal, IsParcelRefusal}
use Rattle.la_set.specs.declared.error.SetError.TheVariants as set_error
use Rattle.la_replica.specs.Whole.{Message}
use Rattle.la_replica.specs.Received.{refusal_over, rebuilt_of, message_with, with_refused}
use Rattle.la_replica.specs.Bases.{offered_by}
use Rattle.la_replica.specs.ReplicaState.{ReplicaState, InInstance}
use Rattle.la_replica.specs.Refusals.{IsSubmitRefusal, IsReceiptRefusal}
use Rattle.la_replica.proofs.lemmas.Alike.{alike_received}
use Rattle.la_node.specs.declared.error.WorldError.{WorldError}
use Rattle.la_node.specs.declared.error.WorldError.TheVariants as world
use Rattle.la_node.specs.Taking.{Taken, takes}
use Rattle.la_node.specs.Nodes.{IsProposeRefusal, outcome_due}
use Rattle.la_node.specs.Calls.{NodeCall, Submitted, Proposed, Received}
use Rattle.la_node.specs.Accepting.{accepts, is_for, is_over_base, takes_body, takes_message, unwraps_over, unwraps}
use Rattle.la_node.specs.Accepting.{parcel_call}
use Rattle.la_node.proofs.lemmas.Tests.{decides-unwraps}
use Rattle.la_node.specs.Steps.{Given, given_after, step_given, node_step, IsNoStep}
use Rattle.la_node.proofs.lemmas.Stepping.{submission_refused, proposal_refused, message_refused}
use Rattle.la_node.specs.declared.link.Letter.{Letter}
use Rattle.la_wire.specs.Messages.{letter_message, said_content}
use Rattle.la_wire.specs.Calls.{WireCall, Submit, Decide, Ask, Tick, Receive, Known}
use Rattle.la_durable.specs.Errors.{by_replica, by_proposal, IsForMemory}
use Rattle.la_durable.specs.Nodes.{listed_over, content_of, parcel_of, node_call, acts}

-- ## Calls for this node, and for another

acts_on : (r : ReplicaState) (call : WireCall) (o : Option NodeCall) → node_call r call ≡ o
    → acts r call ≡ option_and_then (node_step r) o
unfolding acts
acts_on r call o is = ap (option_and_then (node_step r)) is

where_own : (a b : ℕ) (k : NodeCall) → a ≡ b → cond (eqb a b) (Some k) None ≡ Some k
where_own a b k is = ap (λ t. cond t (Some k) None) (eq-eqb a b is)

where_other : (a b : ℕ) (k : NodeCall) → a ≢ b → cond (eqb a b) (Some k) None ≡ None
where_other a b k differ = ap (λ t. cond t (Some k) None) (false_from_ne_true (eqb a b) (λ e. differ (eqb-true a b e)))

pub submission_acts : (r : ReplicaState) (replica object : ℕ) (op : Op) → replica ≡ r.own
    → acts r (Submit replica object op) ≡ node_step r (Submitted (op_on object op))
submission_acts r replica object op own =
    let call = Submitted (op_on object op) in
    acts_on r (Submit replica object op) (Some call) (where_own replica r.own call own)

pub submission_elsewhere : (r : ReplicaState) (replica object : ℕ) (op : Op) → replica ≢ r.own
    → acts r (Submit replica object op) ≡ None
submission_elsewhere r replica object op other =
    acts_on r (Submit replica object op) None (where_other replica r.own (Submitted (op_on object op)) other)

pub proposal_acts : (r : ReplicaState) (replica commit value : ℕ) → replica ≡ r.own
    → acts r (Decide replica commit value) ≡ node_step r (Proposed commit value)
proposal_acts r replica commit value own =
    let call = Proposed commit value in
    acts_on r (Decide replica commit value) (Some call) (where_own replica r.own call own)

pub proposal_elsewhere : (r : ReplicaState) (replica commit value : ℕ) → replica ≢ r.own
    → acts r (Decide replica commit value) ≡ None
proposal_elsewhere r replica commit value other =
    acts_on r (Decide replica commit value) None (where_other replica r.own (Proposed commit value) other)

-- ## A message

abbrev unmade : DeltaState → DeltaState
unmade d = listed_over d.base d.more

abbrev unmade_body : code_body.Body → code_body.Body
unmade_body (body.Offer d) = body.Offer (unmade d)
unmade_body body.Yes = body.Yes
unmade_body (body.No d) = body.No (unmade d)
unmade_body (body.Tell told) = body.Tell told

abbrev message_where : (instance from to ballot : ℕ) → code_body.Body → code.Message
message_where instance from to ballot b = record { instance = instance; from = from; to = to; ballot = ballot; body = b }

-- the same, with its deltas as lists
abbrev unmade_message : code.Message → code.Message
unmade_message m = message_where m.instance m.from m.to m.ballot (unmade_body m.body)

unmade_alike : (b : code_body.Body) → AreAlikeBodies b (unmade_body b)
unmade_alike (body.Offer d) = (refl, refl)
unmade_alike body.Yes = tt
unmade_alike (body.No d) = (refl, refl)
unmade_alike (body.Tell told) = refl

alike : (m : code.Message) → AreAlike m (unmade_message m)
alike m = record { instance = refl; from = refl; to = refl; ballot = refl; body = unmade_alike m.body }

same_over : (b : Bool) (s : Histories) (d : DeltaState)
    → is_over_base (refusal_over b s d) ≡ is_over_base (refusal_over b s (unmade d))
same_over true s d = refl
same_over false s d = refl

same_rebuilt : (b : Bool) (s : Histories) (d : DeltaState)
    → option_map rebuilt_of (refusal_over b s d) ≡ option_map rebuilt_of (refusal_over b s (unmade d))
same_rebuilt true s d = refl
same_rebuilt false s d = refl

same_takes : (x : Instance) (instance from to ballot : ℕ) (b : code_body.Body)
    → takes_message (Some x) (message_where instance from to ballot b)
    ≡ takes_message (Some x) (message_where instance from to ballot (unmade_body b))
same_takes x instance from to ballot (body.Offer d) = refl
same_takes x instance from to ballot body.Yes = refl
same_takes x instance from to ballot (body.No d) =
    let b = counts x.proposer from ballot in
    let s = x.proposer.updates in
    ap₂
    (λ (over : Bool) (set : Option Histories).
    over && takes_body x (message_with set (message_where instance from to ballot (body.No d))) (with_refused set))
    (same_over b s d) (same_rebuilt b s d)
same_takes x instance from to ballot (body.Tell told) = refl

same_accepts : (r : ReplicaState) (m : code.Message) → accepts r (Received m) ≡ accepts r (Received (unmade_message m))
unfolding accepts
same_accepts r m = ap (λ (b : Bool). is_for r m && b) (go (slice_get r.instances m.instance))
  where
    go : (o : Option Instance) → takes_message o m ≡ takes_message o (unmade_message m)
    go None = refl
    go (Some x) = same_takes x m.instance m.from m.to m.ballot m.body

-- what a step on a message that is received as this one comes to
abbrev receipt : ReplicaState → (instance : ℕ) → Message → Option (Given × ReplicaState)
receipt r i w =
    option_map
    (λ (made : Taken × ReplicaState).
    (given_after made.1 (offered_by w) made.0 (outcome_due i r.own made.0.said), made.1))
    (takes r w)

same_given : (r : ReplicaState) (m : code.Message)
    → step_given r (Received m) ≡ step_given r (Received (unmade_message m))
unfolding step_given
same_given r m = ap (receipt r m.instance) (alike_received r m (unmade_message m) (alike m))

same_step : (r : ReplicaState) (m : code.Message)
    → node_step r (Received m) ≡ node_step r (Received (unmade_message m))
same_step r m =
    ap₂ (λ (b : Bool) (o : Option (Given × ReplicaState)). cond b o None) (same_accepts r m) (same_given r m)

-- ## A parcel

-- what the line of a letter says
abbrev again : Letter → Parcel
again l = parcel_of (letter_message l)

-- it stands for something where the letter's does, and for the same
same_unwraps : (over : Histories) (c : Content) → unwraps_over over c ≡ unwraps_over over (content_of (said_content c))
same_unwraps over (content.Offer d) = refl
same_unwraps over content.Yes = refl
same_unwraps over (content.No d) = refl
same_unwraps over (content.Tell d) = refl

same_body : (over : Histories) (c : Content)
    → unmade_body (unwrapped_body over c) ≡ unwrapped_body over (content_of (said_content c))
same_body over (content.Offer d) = refl
same_body over content.Yes = refl
same_body over (content.No d) = refl
same_body over (content.Tell d) = refl

same_message : (r : ReplicaState) (l : Letter) → unmade_message (unwrapped_in r l.parcel) ≡ unwrapped_in r (again l)
same_message r l =
    ap (message_where l.parcel.instance l.parcel.from l.parcel.to l.parcel.ballot)
    (same_body (view_of r l.parcel.instance) l.parcel.content)

step_again : (r : ReplicaState) (l : Letter)
    → node_step r (Received (unwrapped_in r l.parcel)) ≡ node_step r (Received (unwrapped_in r (again l)))
step_again r l =
    same_step r (unwrapped_in r l.parcel) ∙ ap (λ m. node_step r (Received m)) (same_message r l)

-- of a group of this size a letter acts as its parcel's call
letter_acts : (r : ReplicaState) (l : Letter) (b : Bool) → l.replicas ≡ length r.votes → unwraps r l.parcel ≡ b
    → acts r (Receive (letter_message l))
    ≡ option_and_then (node_step r) (cond b (Some (Received (unwrapped_in r (again l)))) None)
letter_acts r l b group is =
    let call = λ (t : Bool). cond t (Some (Received (unwrapped_in r (again l)))) None in
    acts_on r (Receive (letter_message l)) (call b)
    (ap (λ t. cond t (parcel_call r (again l)) None) (eq-eqb l.replicas (length r.votes) group)
    ∙ ap call (sym (same_unwraps (view_of r l.parcel.instance) l.parcel.content) ∙ is))

pub message_acts : (r : ReplicaState) (l : Letter) → l.replicas ≡ length r.votes → UnwrapsIn r l.parcel
    → acts r (Receive (letter_message l)) ≡ node_step r (Received (unwrapped_in r l.parcel))
message_acts r l group stands =
    letter_acts r l true group ((decides-unwraps (view_of r l.parcel.instance) l.parcel.content).1 stands)
    ∙ sym (step_again r l)

pub message_elsewhere : (r : ReplicaState) (l : Letter) → l.replicas ≢ length r.votes
    → acts r (Receive (letter_message l)) ≡ None
message_elsewhere r l other =
    acts_on r (Receive (letter_message l)) None
    (ap (λ t. cond t (parcel_call r (again l)) None)
    (false_from_ne_true (eqb l.replicas (length r.votes)) (λ e. other (eqb-true l.replicas (length r.votes) e))))

-- ## Refusals

replica_refused : (e : ReplicaError) (r : ReplicaState) (call : NodeCall) → IsNoStep r call (e ≡ replica.Memory)
    → IsForMemory (by_replica e) ⊎ (node_step r call ≡ None)
replica_refused e r call (inl memory) = inl (ap by_replica memory)
replica_refused e r call (inr none) = inr none

proposal_is_refused : (e : WorldError) (r : ReplicaState) (call : NodeCall) → IsNoStep r call (e ≡ world.Memory)
    → IsForMemory (by_proposal e) ⊎ (node_step r call ≡ None)
proposal_is_refused e r call (inl memory) = inl (ap by_proposal memory)
proposal_is_refused e r call (inr none) = inr none

-- of what acts as that call
acts_none : {M : Type 0} (r : ReplicaState) (call : WireCall) (k : NodeCall) → acts r call ≡ node_step r k
    → M ⊎ (node_step r k ≡ None) → M ⊎ (acts r call ≡ None)
acts_none r call k same (inl memory) = inl memory
acts_none r call k same (inr none) = inr (same ∙ none)

pub refusal_of_submission : (r : ReplicaState) (replica object : ℕ) (op : Op) (e : ReplicaError) → replica ≡ r.own
    → IsSubmitRefusal r 0 e → IsForMemory (by_replica e) ⊎ (acts r (Submit replica object op) ≡ None)
refusal_of_submission r replica object op e own h =
    let call = Submitted (op_on object op) in
    acts_none r (Submit replica object op) call (submission_acts r replica object op own)
    (replica_refused e r call (submission_refused r (op_on object op) e h))

-- where the message that it is has no step, and where it is none
none_unwrapped : (r : ReplicaState) (l : Letter) → l.replicas ≡ length r.votes
    → node_step r (Received (unwrapped_in r l.parcel)) ≡ None → acts r (Receive (letter_message l)) ≡ None
none_unwrapped r l group none = elim (cases_Bool (unwraps r l.parcel)) [
  | inl stands ↦ letter_acts r l true group stands ∙ sym (step_again r l) ∙ none
  | inr shut ↦ letter_acts r l false group shut
]

none_shut : (r : ReplicaState) (l : Letter) → l.replicas ≡ length r.votes → ¬ UnwrapsIn r l.parcel
    → acts r (Receive (letter_message l)) ≡ None
none_shut r l group shut =
    letter_acts r l false group
    (false_from_ne_true (unwraps r l.parcel)
    (λ e. shut ((decides-unwraps (view_of r l.parcel.instance) l.parcel.content).0 e)))

abbrev IsRefusedLetter : ReplicaState → Letter → ReplicaError → Type 0
IsRefusedLetter r l e = IsForMemory (by_replica e) ⊎ (acts r (Receive (letter_message l)) ≡ None)

received_refused : (r : ReplicaState) (l : Letter) (e : ReplicaError) → l.replicas ≡ length r.votes
    → IsReceiptRefusal r (unwrapped_in r l.parcel) e → IsRefusedLetter r l e
received_refused r l e group h = elim (message_refused r (unwrapped_in r l.parcel) e h) [
  | inl memory ↦ inl (ap by_replica memory)
  | inr none ↦ inr (none_unwrapped r l group none)
]

no_base : (over : Histories) (c : Content) → IsShut over c set_error.NoBase → ¬ Unwraps over c
no_base over (content.Offer d) shut stands = shut
no_base over content.Yes shut stands = shut
no_base over (content.No d) shut stands = shut
no_base over (content.Tell d) shut stands = shut stands.base

gap : (over : Histories) (c : Content) → IsShut over c set_error.Gap → ¬ Unwraps over c
gap over (content.Offer d) shut stands = shut
gap over content.Yes shut stands = shut
gap over (content.No d) shut stands = shut
gap over (content.Tell d) shut stands = shut.1 stands.next

some_shut : (r : ReplicaState) (p : Parcel) (P : Type 0)
    → InInstance r p.instance (λ _. P) → P
some_shut r p P there = go (slice_get r.instances p.instance) there
  where
    go : (o : Option Instance) → IsSomeAnd o (λ _. P) → P
    go None h = absurd h
    go (Some x) h = h

unwrap_refused : (r : ReplicaState) (l : Letter) (e : ReplicaError) → l.replicas ≡ length r.votes
    → IsUnwrapRefusal r l.parcel e → IsRefusedLetter r l e
unwrap_refused r l replica.NoSuchReplica group h = received_refused r l replica.NoSuchReplica group h
unwrap_refused r l replica.NoSuchInstance group h = received_refused r l replica.NoSuchInstance group h
unwrap_refused r l replica.NoBase group h =
    inr (none_shut r l group
    (no_base (view_of r l.parcel.instance) l.parcel.content
    (some_shut r l.parcel (IsShut (view_of r l.parcel.instance) l.parcel.content set_error.NoBase) h.1)))
unwrap_refused r l replica.Gap group h =
    inr (none_shut r l group
    (gap (view_of r l.parcel.instance) l.parcel.content
    (some_shut r l.parcel (IsShut (view_of r l.parcel.instance) l.parcel.content set_error.Gap) h.1)))
unwrap_refused r l replica.Memory group h = inl refl
unwrap_refused r l replica.Full group h = absurd h
unwrap_refused r l (replica.Clash id) group h = absurd h
unwrap_refused r l replica.BallotsSpent group h = absurd h

pub refusal_of_message : (r : ReplicaState) (l : Letter) (e : ReplicaError) → l.replicas ≡ length r.votes
    → IsParcelRefusal r l.parcel e → IsForMemory (by_replica e) ⊎ (acts r (Receive (letter_message l)) ≡ None)
refusal_of_message r l e group (inl h) = unwrap_refused r l e group h
refusal_of_message r l e group (inr h) = received_refused r l e group h.1

pub refusal_of_proposal : (r : ReplicaState) (replica commit value : ℕ) (e : WorldError) → replica ≡ r.own
    → IsProposeRefusal r commit e → IsForMemory (by_proposal e) ⊎ (acts r (Decide replica commit value) ≡ None)
refusal_of_proposal r replica commit value e own h =
    let call = Proposed commit value in
    acts_none r (Decide replica commit value) call (proposal_acts r replica commit value own)
    (proposal_is_refused e r call (proposal_refused r commit value e h))

pub question_elsewhere : (r : ReplicaState) (replica object : ℕ) (query : _) → acts r (Ask replica object query) ≡ None
question_elsewhere r replica object query = acts_on r (Ask replica object query) None refl

pub known_elsewhere : (r : ReplicaState) (standing : _) → acts r (Known standing) ≡ None
known_elsewhere r standing = acts_on r (Known standing) None refl

pub tick_elsewhere : (r : ReplicaState) → acts r Tick ≡ None
tick_elsewhere r = acts_on r Tick None refl
