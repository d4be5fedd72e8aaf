-- What a node's step adds to what its replica has submitted.
use Rattle.std.proofs.Common.{◌≡◌, ℕ, zero, suc, ◌<◌, Bool, true, false, cond, List, [], ◌∷◌, ◌++◌, length}
use Rattle.std.proofs.Common.{slice_get, slice_set, Option, Some, None, IsSomeAnd, option_and_then, refl, sym, ap}
use Rattle.std.proofs.Common.{subst, ◌∙◌, append-nil, arith}
use Rattle.std.proofs.lemmas.Option.{none-some, same_Some}
use Rattle.la_set.specs.ObjectOps.{ObjectOp}
use Rattle.la_set.specs.Histories.{Histories}
use Rattle.la_acceptor.specs.declared.reply.Reply.{Reply}
use Rattle.la_acceptor.specs.declared.reply.Reply.TheVariants as replied
use Rattle.la_proposer.specs.Clashes.{ReplyFits}
use Rattle.la_proposer.specs.Inputs.{all_submitted}
use Rattle.la_proposer.specs.Invariant.{IsProposerState}
use Rattle.la_proposer.specs.declared.tally.Verdict.{Verdict}
use Rattle.la_proposer.specs.declared.tally.Verdict.TheVariants.{Waits, Refines, Learns}
use Rattle.la_proposer.specs.ProposerState.{ProposerState, submitted, with_waiting, with_reply, is_nothing, closed}
use Rattle.la_proposer.specs.ProposerState.{counts, verdict_of, after_opening, after_verdict, after_counting}
use Rattle.la_proposer.specs.ProposerState.{after_submission, after_reply}
use Rattle.la_proposer.specs.Refusals.{SubmissionSpends, ReplySpares, IsHearable}
use Rattle.la_proposer.specs.Resuming.{may_resume}
use Rattle.la_commit.specs.Instances.{first_instance}
use Rattle.la_commit.specs.Votes.{first_vote}
use Rattle.la_replica.specs.declared.instance.Instance.{Instance}
use Rattle.la_replica.specs.declared.out.Said.{Said}
use Rattle.la_replica.specs.declared.sender.Sender.{Sender}
use Rattle.la_replica.specs.Invariant.{IsOf}
use Rattle.la_replica.specs.Received.{received_in}
use Rattle.la_replica.specs.Refusals.{FitsBody, SparesBody}
use Rattle.la_replica.specs.ReplicaState.{ReplicaState, with_instance, sender_of, after_step, submits, receives}
use Rattle.la_replica.specs.Steps.{Step, learnt_in, receives_body}
use Rattle.la_replica.specs.Steps as steps
use Rattle.la_replica.specs.Whole.{Message, Body, Offer, Yes, No, Tell, Out}
use Rattle.la_node.specs.Calls.{NodeCall, Submitted, Proposed, Received}
use Rattle.la_node.specs.SecondVotes.{Submission, second_vote_in}
use Rattle.la_node.specs.Steps.{Given, node_step, step_given, of_submission, of_receipt}
use Rattle.la_node.specs.Taking.{Taken, takes, then_votes, vote_due, with_vote, without_vote}
use Rattle.la_node.proofs.lemmas.Items.{get_put}
use Rattle.la_node.proofs.lemmas.SecondVotes.{second_vote_in_is}
use Rattle.la_node.proofs.lemmas.Stepping.{some_of, was_accepted}
use Rattle.la_serve.specs.Numbered.{submissions_at, submissions_by}
use Rattle.la_serve.specs.Once.{MayGoOn}

-- what laws of `la_proposer` say
pub record ProposersGoOn : Type 0 where
  pub is : (p : ProposerState) → may_resume p ≡ true → IsProposerState p
  pub submission : (p : ProposerState) (d : ObjectOp) → may_resume p ≡ true → submitted p < p.cap
      → ¬ SubmissionSpends p → may_resume (after_submission p d) ≡ true
  pub reply : (p : ProposerState) (from ballot : ℕ) (reply : Reply) → may_resume p ≡ true
      → IsHearable p from ballot reply → may_resume (after_reply p from ballot reply) ≡ true
  pub adds : (p : ProposerState) (d : ObjectOp) → p.own < 8
      → all_submitted (after_submission p d) ≡ all_submitted p ++ d ∷ []
  pub none : (p : ProposerState) (from ballot : ℕ) (reply : Reply) → IsProposerState p
      → ReplyFits p from ballot reply → all_submitted (after_reply p from ballot reply) ≡ all_submitted p

-- an instance of a replica of this group whose proposer may be taken up again
abbrev IsSound : (votes : List ℕ) → (own : ℕ) → Instance → Type 0
IsSound votes own x = IsOf votes own x × (may_resume x.proposer ≡ true)

-- how it goes on: these are submitted
abbrev GoesOnAt : (votes : List ℕ) → (own : ℕ) → List ObjectOp → (x y : Instance) → Type 0
GoesOnAt votes own ds x y = IsSound votes own y × (all_submitted y.proposer ≡ all_submitted x.proposer ++ ds)

-- and a replica
pub record GoesOnWith (ds : List ObjectOp) (before after : ReplicaState) : Type 0 where
  pub may : MayGoOn after
  pub own : after.own ≡ before.own
  pub adds : submissions_by after ≡ submissions_by before ++ ds

some_and : {A : Type 0} {P : A → Type 0} (o : Option A) → IsSomeAnd o P → (x : A) × (o ≡ Some x) × P x
some_and None some = absurd some
some_and (Some x) some = (x, refl, some)

and_some : {A : Type 0} (P : A → Type 0) (o : Option A) (x : A) → o ≡ Some x → IsSomeAnd o P → P x
and_some P None x e some = absurd (none-some x e)
and_some P (Some y) x e some = subst P (same_Some y x e) some

some_then : {A B : Type 0} (f : A → Option B) (o : Option A) (y : B) → option_and_then f o ≡ Some y
    → (x : A) × (o ≡ Some x) × (f x ≡ Some y)
some_then f None y e = absurd (none-some y e)
some_then f (Some x) y e = (x, refl, e)

first_of : {A : Type 0} (xs : List A) (i : ℕ) (y : A) → 0 < i → slice_get (slice_set xs i y) 0 ≡ slice_get xs 0
first_of [] i y lt = refl
first_of (x ∷ xs) zero y lt = absurd (omega (arith, lt))
first_of (x ∷ xs) (suc i) y lt = refl

-- ## The group, and which replica it is, stay

abbrev IsSame : ProposerState → ProposerState → Type 0
IsSame p q = (q.votes ≡ p.votes) × (q.own ≡ p.own)

where_same : (p : ProposerState) (b : Bool) (q s : ProposerState) → IsSame p q → IsSame p s → IsSame p (cond b q s)
where_same p true q s one two = one
where_same p false q s one two = two

submission_same : (p : ProposerState) (d : ObjectOp) → IsSame p (after_submission p d)
submission_same p d =
    where_same p p.is_asking (with_waiting p d) (after_opening (with_waiting p d)) (refl, refl) (refl, refl)

verdict_same : (p : ProposerState) (from : ℕ) (reply : Reply) (v : Verdict)
    → IsSame p (after_verdict (with_reply p from reply) v)
verdict_same p from reply Waits = (refl, refl)
verdict_same p from reply Refines = (refl, refl)
verdict_same p from reply Learns =
    let q = with_reply p from reply in
    where_same p (is_nothing q.waiting) (closed q) (after_opening q) (refl, refl) (refl, refl)

reply_same : (p : ProposerState) (from ballot : ℕ) (reply : Reply) → IsSame p (after_reply p from ballot reply)
reply_same p from ballot reply =
    let q = with_reply p from reply in
    where_same p (counts p from ballot) (after_counting q) p (verdict_same p from reply (verdict_of q)) (refl, refl)

-- ## One step

module _ (laws : ProposersGoOn) (r : ReplicaState) (may : MayGoOn r) where
  here : (x : Instance) × (slice_get r.instances 0 ≡ Some x) × IsSound r.votes r.own x
  here = some_and (slice_get r.instances 0) may

  abbrev x : Instance
  x = here.0

  -- where the group, and which replica it is, are the same, and this is what its instance 0 became
  goes_with : (ds : List ObjectOp) (after : ReplicaState) (y : Instance) → after.votes ≡ r.votes → after.own ≡ r.own
      → slice_get after.instances 0 ≡ Some y → GoesOnAt r.votes r.own ds x y → GoesOnWith ds r after
  goes_with ds after y votes own at goes = record {
    may =
        subst (λ (o : Option Instance). IsSomeAnd o (IsSound after.votes after.own)) (sym at)
        (subst (λ (v : List ℕ). IsSound v after.own y) (sym votes)
        (subst (λ (o : ℕ). IsSound r.votes o y) (sym own) goes.0));
    own = own;
    adds =
        ap submissions_at at ∙ goes.1
        ∙ ap (λ (o : Option Instance). submissions_at o ++ ds) (sym here.1);
  }

  same_goes : GoesOnAt r.votes r.own [] x x
  same_goes = (here.2, sym (append-nil (all_submitted x.proposer)))

  -- a step in an instance behind instance 0 leaves that as it is
  later_goes : (i : ℕ) (y : Instance) (view : Histories) → 0 < i → GoesOnWith [] r (with_instance r i y view)
  later_goes i y view lt =
      goes_with [] (with_instance r i y view) x refl refl (first_of r.instances i y lt ∙ here.1) same_goes

  first_goes : (ds : List ObjectOp) (y : Instance) (view : Histories) → GoesOnAt r.votes r.own ds x y
      → GoesOnWith ds r (with_instance r 0 y view)
  first_goes ds y view goes =
      goes_with ds (with_instance r 0 y view) y refl refl (get_put r.instances 0 x y here.1) goes

  of_eight : x.proposer.own < 8
  of_eight = let is = laws.is x.proposer here.2.1 in omega (arith, is.known, is.few)

  -- ## A submission

  submitted_goes : (d : ObjectOp) → submitted x.proposer < x.proposer.cap → ¬ SubmissionSpends x.proposer
      → GoesOnAt r.votes r.own (d ∷ []) x (record x { proposer = after_submission x.proposer d })
  submitted_goes d room spares =
      let same = submission_same x.proposer d in (
        ((same.0 ∙ here.2.0.0, same.1 ∙ here.2.0.1), laws.submission x.proposer d here.2.1 room spares),
        laws.adds x.proposer d of_eight,
      )

  -- in any instance
  submits_goes : (i : ℕ) (d : ObjectOp) (made : Out × ReplicaState) → 0 < i → submits r i d ≡ Some made
      → GoesOnWith [] r made.1
  submits_goes i d made lt e =
      let s = some_of (λ z. after_step r i (steps.submits (sender_of r i) z r.view d)) (slice_get r.instances i) made
      e in
      subst (λ (p : Out × ReplicaState). GoesOnWith [] r p.1) s.2 (later_goes i _ r.view lt)

  update_goes : (d : ObjectOp) (made : Out × ReplicaState)
      → IsSomeAnd (slice_get r.instances 0) (λ z. submitted z.proposer < z.proposer.cap)
      → IsSomeAnd (slice_get r.instances 0) (λ z. ¬ SubmissionSpends z.proposer)
      → submits r 0 d ≡ Some made → GoesOnWith (d ∷ []) r made.1
  update_goes d made room spares e =
      let f : Instance → Out × ReplicaState =
      λ z. after_step r 0 (steps.submits (sender_of r 0) z r.view d) in
      let s = some_of f (slice_get r.instances 0) made e in
      let same : s.0 ≡ x = same_Some s.0 x (sym s.1 ∙ here.1) in
      subst (λ (p : Out × ReplicaState). GoesOnWith (d ∷ []) r p.1) s.2
      (subst (λ z. GoesOnWith (d ∷ []) r (f z).1) (sym same)
      (first_goes (d ∷ []) (record x { proposer = after_submission x.proposer d }) r.view
      (submitted_goes d
      (and_some (λ (z : Instance). submitted z.proposer < z.proposer.cap) (slice_get r.instances 0) x here.1 room)
      (and_some (λ (z : Instance). ¬ SubmissionSpends z.proposer) (slice_get r.instances 0) x here.1 spares))))

  -- ## A message

  module _ (m : Message) (from : m.from < length r.votes) where
    reply_goes : (s : Sender) (reply : Reply) → ReplyFits x.proposer m.from m.ballot reply
        → ReplySpares x.proposer m.from m.ballot reply
        → GoesOnAt r.votes r.own [] x (steps.hears s x r.view m reply).at
    reply_goes s reply fits spares =
        let p = x.proposer in
        let same = reply_same p m.from m.ballot reply in
        let group : m.from < length p.votes =
        subst (λ (v : List ℕ). m.from < length v) (sym here.2.0.0) from in (
          (
            (same.0 ∙ here.2.0.0, same.1 ∙ here.2.0.1),
            laws.reply p m.from m.ballot reply here.2.1 (record { in_group = group; fits = fits; spares = spares }),
          ),
          laws.none p m.from m.ballot reply (laws.is p here.2.1) fits ∙ sym (append-nil (all_submitted p)),
        )

    body_goes : (s : Sender) (b : Body) → FitsBody x m b → SparesBody x m b
        → GoesOnAt r.votes r.own [] x (receives_body s x r.view m b).at
    body_goes s (Offer offered) fits spares = same_goes
    body_goes s Yes fits spares = reply_goes s replied.Yes (λ counts id clash. clash) spares
    body_goes s (No accepted) fits spares = reply_goes s (replied.No accepted) fits spares
    body_goes s (Tell told) fits spares = same_goes

    at_instance : (i : ℕ) (step : Step) → (i ≡ 0 → GoesOnAt r.votes r.own [] x step.at)
        → GoesOnWith [] r (with_instance r i step.at step.view)
    at_instance zero step first = first_goes [] step.at step.view (first refl)
    at_instance (suc i) step first = later_goes (suc i) step.at step.view (omega arith)

    receipt_goes : (made : Out × ReplicaState)
        → IsSomeAnd (slice_get r.instances m.instance) (λ z. FitsBody z m m.body)
        → IsSomeAnd (slice_get r.instances m.instance) (λ z. SparesBody z m m.body) → receives r m ≡ Some made
        → GoesOnWith [] r made.1
    receipt_goes made fits spares e =
        let step : Instance → Step = λ z. steps.receives (sender_of r m.instance) z r.view m in
        let s = some_of (λ z. after_step r m.instance (step z)) (slice_get r.instances m.instance) made e in
        let first : m.instance ≡ 0 → GoesOnAt r.votes r.own [] x (step s.0).at =
        λ zero.
        let at : slice_get r.instances m.instance ≡ Some x = ap (slice_get r.instances) zero ∙ here.1 in
        let same : s.0 ≡ x = same_Some s.0 x (sym s.1 ∙ at) in
        subst (λ z. GoesOnAt r.votes r.own [] x (step z).at) (sym same)
        (body_goes (sender_of r m.instance) m.body
        (and_some (λ (z : Instance). FitsBody z m m.body) (slice_get r.instances m.instance) x at fits)
        (and_some (λ (z : Instance). SparesBody z m m.body) (slice_get r.instances m.instance) x at spares)) in
        subst (λ (p : Out × ReplicaState). GoesOnWith [] r p.1) s.2 (at_instance m.instance (step s.0) first)

-- one step after another
then_goes : (a b c : ReplicaState) → GoesOnWith [] a b → GoesOnWith [] b c → GoesOnWith [] a c
then_goes a b c first second = record {
  may = second.may;
  own = second.own ∙ first.own;
  adds = second.adds ∙ append-nil (submissions_by b) ∙ first.adds;
}

above : (i own : ℕ) (said : Said) (vote : Submission) → vote_due i own said ≡ Some vote → 0 < vote.instance
above i own said vote e =
    let s = some_then (second_vote_in i own) (learnt_in said) vote e in
    let is = (second_vote_in_is i own s.0 vote s.2).1 in omega (arith, is)

module _ (laws : ProposersGoOn) (r : ReplicaState) (may : MayGoOn r) where
  voted_goes : (i : ℕ) (made : Out × ReplicaState) (o : Option Submission) (y : Taken × ReplicaState)
      → GoesOnWith [] r made.1 → vote_due i r.own made.0.said ≡ o → then_votes made o ≡ Some y → GoesOnWith [] r y.1
  voted_goes i made None y goes due e =
      subst (λ (p : Taken × ReplicaState). GoesOnWith [] r p.1) (same_Some (without_vote made.0, made.1) y e) goes
  voted_goes i made (Some vote) y goes due e =
      let s = some_of (λ (cast : Out × ReplicaState). (with_vote made.0 vote.instance cast.0, cast.1))
      (submits made.1 vote.instance vote.object_op) y e in
      subst (λ (p : Taken × ReplicaState). GoesOnWith [] r p.1) s.2
      (then_goes r made.1 s.0.1 goes
      (submits_goes laws made.1 goes.may vote.instance vote.object_op s.0 (above i r.own made.0.said vote due) s.1))

  taken_goes : (m : Message) (y : Taken × ReplicaState) → m.from < length r.votes
      → IsSomeAnd (slice_get r.instances m.instance) (λ z. FitsBody z m m.body)
      → IsSomeAnd (slice_get r.instances m.instance) (λ z. SparesBody z m m.body) → takes r m ≡ Some y
      → GoesOnWith [] r y.1
  taken_goes m y from fits spares e =
      let s = some_then
      (λ (made : Out × ReplicaState). then_votes made (vote_due m.instance r.own made.0.said)) (receives r m) y e in
      voted_goes m.instance s.0 (vote_due m.instance r.own s.0.0.said) y
      (receipt_goes laws r may m from s.0 fits spares s.1) refl s.2

  -- what a call adds
  abbrev pub added : NodeCall → List ObjectOp
  added (Submitted d) = d ∷ []
  added (Proposed k value) = []
  added (Received m) = []

  pub step_goes : (call : NodeCall) (made : Given × ReplicaState) → node_step r call ≡ Some made
      → GoesOnWith (added call) r made.1
  unfolding step_given
  step_goes (Submitted d) made e =
      let both = was_accepted r (Submitted d) made e in
      let s = some_of of_submission (submits r 0 d) made both.1 in
      subst (λ (p : Given × ReplicaState). GoesOnWith (d ∷ []) r p.1) s.2
      (update_goes laws r may d s.0 both.0.0 both.0.1 s.1)
  step_goes (Proposed k value) made e =
      let both = was_accepted r (Proposed k value) made e in
      let s = some_of of_submission (submits r (first_instance k) (first_vote k value)) made both.1 in
      subst (λ (p : Given × ReplicaState). GoesOnWith [] r p.1) s.2
      (submits_goes laws r may (first_instance k) (first_vote k value) s.0 (omega arith) s.1)
  step_goes (Received m) made e =
      let both = was_accepted r (Received m) made e in
      let s = some_of (of_receipt r m) (takes r (received_in r m)) made both.1 in
      subst (λ (p : Given × ReplicaState). GoesOnWith [] r p.1) s.2
      (taken_goes (received_in r m) s.0 both.0.receivable.0.0 both.0.receivable.1 both.0.spares s.1)
