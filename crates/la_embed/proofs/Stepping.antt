-- What a step of a host is for its group: its replica keeps its number, and what it receives was sent.
use Rattle.std.proofs.Common.{◌≡◌, ℕ, nat_lt, ◌==◌, Bool, true, false, ◌&&◌, cond, List, length, slice_get}
use Rattle.std.proofs.Common.{Option, Some, None, option_and_then, refl, sym, ap, subst, ◌∙◌}
use Rattle.std.proofs.lemmas.Bool.{eqb-true, false≢true}
use Rattle.std.proofs.lemmas.Option.{none-some, same_Some}
use Rattle.la_set.specs.ObjectOps.{ObjectOp}
use Rattle.la_proposer.specs.ProposerState.{op_on}
use Rattle.la_commit.specs.Instances.{first_instance}
use Rattle.la_commit.specs.Votes.{first_vote}
use Rattle.la_replica.specs.declared.message.Message as code
use Rattle.la_replica.specs.declared.parcel.Content.{Content}
use Rattle.la_replica.specs.declared.parcel.Content.TheVariants as content
use Rattle.la_replica.specs.Parcels.{AreAlikeParcels, AreAlikeContents, unwrapped_in, view_of}
use Rattle.la_replica.specs.Received.{received_in}
use Rattle.la_replica.specs.ReplicaState.{ReplicaState, sender_of, after_step, submits, receives}
use Rattle.la_replica.specs.Steps as steps
use Rattle.la_replica.specs.Whole.{Message, Out}
use Rattle.la_node.specs.declared.link.Letter.{Letter}
use Rattle.la_node.specs.Accepting.{accepts, is_for, takes_message, unwraps, parcel_call}
use Rattle.la_node.specs.Calls.{NodeCall, Submitted, Proposed, Received}
use Rattle.la_node.specs.SecondVotes.{Submission}
use Rattle.la_node.specs.Steps.{Given, node_step, step_given, of_submission, of_receipt}
use Rattle.la_node.specs.Taking.{Taken, takes, then_votes, vote_due, with_vote, without_vote}
use Rattle.la_node.proofs.lemmas.Tests.{decides-unwraps}
use Rattle.la_node.proofs.lemmas.Stepping.{some_of}
use Rattle.la_wire.specs.Messages.{WireMessage, said_content}
use Rattle.la_wire.specs.Calls.{WireCall, Submit, Decide, Ask, Tick, Receive, Known}
use Rattle.la_durable.specs.Nodes.{acts, node_call, parcel_of, content_of}
use Rattle.la_world.specs.LiveGroups.{learnt_by_call}
use Rattle.la_world.specs.Together.{IsOfLetters, IsBrought}
use Rattle.la_embed.specs.Together.{IsCallOfSent, IsReceipt, learnt_by_host}

-- ## A call, where it is accepted

where_some : {A : Type 0} (b : Bool) (k call : A) → cond b (Some k) None ≡ Some call → (b ≡ true) × (k ≡ call)
where_some true k call e = (refl, same_Some k call e)
where_some false k call e = absurd (none-some call e)

where_then : {A : Type 0} (b : Bool) (o : Option A) (call : A) → cond b o None ≡ Some call
    → (b ≡ true) × (o ≡ Some call)
where_then true o call e = (refl, e)
where_then false o call e = absurd (none-some call e)

and_left : (a b : Bool) → (a && b) ≡ true → a ≡ true
and_left true b e = refl
and_left false b e = e

and_right : (a b : Bool) → (a && b) ≡ true → b ≡ true
and_right true b e = e
and_right false b e = absurd (false≢true e)

some_then : {A B : Type 0} (f : A → Option B) (o : Option A) (y : B) → option_and_then f o ≡ Some y
    → (x : A) × (o ≡ Some x) × (f x ≡ Some y)
some_then f None y e = absurd (none-some y e)
some_then f (Some x) y e = (x, refl, e)

accepted : (q : ReplicaState) (call : NodeCall) (made : Given × ReplicaState) → node_step q call ≡ Some made
    → (accepts q call ≡ true) × (step_given q call ≡ Some made)
accepted q call made e = where_then (accepts q call) (step_given q call) made e

-- a message that is accepted is for its receiver
to_own : (q : ReplicaState) (m : code.Message) → accepts q (Received m) ≡ true → m.to ≡ q.own
unfolding accepts
to_own q m e =
    eqb-true m.to q.own
    (and_right (nat_lt m.from (length q.votes)) (m.to == q.own)
    (and_left (is_for q m) (takes_message (slice_get q.instances m.instance) m) e))

-- ## A step keeps its replica's number

own_submitting : (q : ReplicaState) (i : ℕ) (d : ObjectOp) (x : Out × ReplicaState) → submits q i d ≡ Some x
    → x.1.own ≡ q.own
own_submitting q i d x e =
    let s = some_of (λ y. after_step q i (steps.submits (sender_of q i) y q.view d)) (slice_get q.instances i) x e in
    ap (λ (p : Out × ReplicaState). p.1.own) (sym s.2)

own_receiving : (q : ReplicaState) (m : Message) (x : Out × ReplicaState) → receives q m ≡ Some x → x.1.own ≡ q.own
own_receiving q m x e =
    let s = some_of (λ y. after_step q m.instance (steps.receives (sender_of q m.instance) y q.view m))
    (slice_get q.instances m.instance) x e in
    ap (λ (p : Out × ReplicaState). p.1.own) (sym s.2)

own_voting : (made : Out × ReplicaState) (o : Option Submission) (y : Taken × ReplicaState) → then_votes made o ≡ Some y
    → y.1.own ≡ made.1.own
own_voting made None y e =
    ap (λ (p : Taken × ReplicaState). p.1.own) (sym (same_Some (without_vote made.0, made.1) y e))
own_voting made (Some vote) y e =
    let s = some_of (λ (cast : Out × ReplicaState). (with_vote made.0 vote.instance cast.0, cast.1))
    (submits made.1 vote.instance vote.object_op) y e in
    ap (λ (p : Taken × ReplicaState). p.1.own) (sym s.2)
    ∙ own_submitting made.1 vote.instance vote.object_op s.0 s.1

own_taking : (q : ReplicaState) (m : Message) (y : Taken × ReplicaState) → takes q m ≡ Some y → y.1.own ≡ q.own
own_taking q m y e =
    let s = some_then
    (λ (made : Out × ReplicaState). then_votes made (vote_due m.instance q.own made.0.said)) (receives q m) y e in
    own_voting s.0 (vote_due m.instance q.own s.0.0.said) y s.2 ∙ own_receiving q m s.0 s.1

own_given : (q : ReplicaState) (call : NodeCall) (made : Given × ReplicaState) → step_given q call ≡ Some made
    → made.1.own ≡ q.own
unfolding step_given
own_given q (Submitted d) made e =
    let s = some_of of_submission (submits q 0 d) made e in
    ap (λ (p : Given × ReplicaState). p.1.own) (sym s.2) ∙ own_submitting q 0 d s.0 s.1
own_given q (Proposed k value) made e =
    let s = some_of of_submission (submits q (first_instance k) (first_vote k value)) made e in
    ap (λ (p : Given × ReplicaState). p.1.own) (sym s.2)
    ∙ own_submitting q (first_instance k) (first_vote k value) s.0 s.1
own_given q (Received m) made e =
    let s = some_of (of_receipt q m) (takes q (received_in q m)) made e in
    ap (λ (p : Given × ReplicaState). p.1.own) (sym s.2) ∙ own_taking q (received_in q m) s.0 s.1

-- ## What is received was sent

alike_read : (c : Content) → AreAlikeContents (content_of (said_content c)) c
alike_read (content.Offer d) = (refl, refl)
alike_read content.Yes = tt
alike_read (content.No d) = (refl, refl)
alike_read (content.Tell d) = (refl, refl)

of_letters : (letters : List Letter) (m : WireMessage) → IsCallOfSent letters (Receive m) → IsOfLetters (parcel_of m)
    letters
of_letters letters m (letter, has, is) = (
  letter,
  has,
  subst (λ x. AreAlikeParcels (parcel_of x) letter.parcel) is
      (record { instance = refl; from = refl; to = refl; ballot = refl; content = alike_read letter.parcel.content }),
)

module _ (letters : List Letter) (r : ℕ) (q : ReplicaState) (own : q.own ≡ r) where
  -- an action of the node stands for this call, and what it may learn by it
  abbrev IsSo : WireCall → NodeCall → Type 0
  IsSo call action = IsBrought letters r q action
      × ((given : Given) → learnt_by_host r call given ≡ learnt_by_call r action given.said)

  received_so : (m : WireMessage) (action : NodeCall) → IsOfLetters (parcel_of m) letters
      → unwraps q (parcel_of m) ≡ true → Received (unwrapped_in q (parcel_of m)) ≡ action → accepts q action ≡ true
      → IsSo (Receive m) action
  received_so m action among unwraps is does =
      let p = parcel_of m in
      let u = unwrapped_in q p in
      let to : m.to ≡ r = to_own q u (subst (λ a. accepts q a ≡ true) (sym is) does) ∙ own in
      subst (IsSo (Receive m)) is
      ((p, refl, (decides-unwraps (view_of q p.instance) p.content).0 unwraps, to, among), λ given. refl)

  brought : (call : WireCall) (action : NodeCall) → node_call q call ≡ Some action → IsCallOfSent letters call
      → accepts q action ≡ true → IsSo call action
  brought (Submit replica object op) action is sent does =
      subst (IsSo (Submit replica object op)) (where_some (replica == q.own) (Submitted (op_on object op)) action is).1
      (tt, λ given. refl)
  brought (Decide replica commit value) action is sent does =
      subst (IsSo (Decide replica commit value)) (where_some (replica == q.own) (Proposed commit value) action is).1
      (tt, λ given. refl)
  brought (Ask replica object query) action is sent does = absurd (none-some action is)
  brought Tick action is sent does = absurd (none-some action is)
  brought (Known standing) action is sent does = absurd (none-some action is)
  brought (Receive m) action is sent does =
      let p = parcel_of m in
      let inner = (where_then (m.replicas == length q.votes) (parcel_call q p) action is).1 in
      let stands = where_some (unwraps q p) (Received (unwrapped_in q p)) action inner in
      received_so m action (of_letters letters m sent) stands.0 stands.1 does

-- the action of a node that a host's step is
pub record IsActionOf (letters : List Letter) (r : ℕ) (q : ReplicaState) (call : WireCall) (given : Given)
    (made : ReplicaState) : Type 0 where
  pub action : NodeCall
  pub asked : node_call q call ≡ Some action
  pub brought : IsBrought letters r q action
  pub learnt : learnt_by_host r call given ≡ learnt_by_call r action given.said
  pub step : node_step q action ≡ Some (given, made)
  pub own : made.own ≡ r

pub action_of : (letters : List Letter) (r : ℕ) (q : ReplicaState) (call : WireCall) (given : Given)
    (made : ReplicaState) → q.own ≡ r → IsCallOfSent letters call → acts q call ≡ Some (given, made)
    → IsActionOf letters r q call given made
unfolding acts
action_of letters r q call given made own sent e =
    let does = some_then (node_step q) (node_call q call) (given, made) e in
    let was = accepted q does.0 (given, made) does.2 in
    let so = brought letters r q own call does.0 does.1 sent was.0 in
    record {
      action = does.0;
      asked = does.1;
      brought = so.0;
      learnt = so.1 given;
      step = does.2;
      own = own_given q does.0 (given, made) was.1 ∙ own;
    }

-- what is received is a receipt
pub is_receipt : (q : ReplicaState) (m : WireMessage) (action : NodeCall) → node_call q (Receive m) ≡ Some action
    → IsReceipt action
is_receipt q m action e =
    let p = parcel_of m in
    let inner = (where_then (m.replicas == length q.votes) (parcel_call q p) action e).1 in
    subst IsReceipt (where_some (unwraps q p) (Received (unwrapped_in q p)) action inner).1 tt
