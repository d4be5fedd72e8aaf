-- What the calls of a node come to, as its step: what is accepted and given out, and what is refused.
use Rattle.std.proofs.Common.{◌≡◌, ◌≢◌, ◌⊎◌, ℕ, ◌≤◌, Bool, true, false, cond, List, length, map, slice_get, Option, Some, None, IsSomeAnd, option_map, refl, sym, ap, ap₂, subst, ◌∙◌, arith, inl, inr}
use Rattle.std.proofs.lemmas.Bool.{false_from_ne_true}
use Rattle.std.proofs.lemmas.Option.{none-some, same_Some, slice_get_past}
use Rattle.la_set.specs.Counts.{zero_counts}
use Rattle.la_set.specs.Inclusion.{IsSubset}
use Rattle.la_set.specs.ObjectOps.{ObjectOp}
use Rattle.la_proposer.specs.ProposerState.{submitted}
use Rattle.la_commit.specs.declared.outcome.Outcome.{Outcome}
use Rattle.la_commit.specs.Instances.{first_instance}
use Rattle.la_commit.specs.Votes.{first_vote}
use Rattle.la_replica.specs.declared.error.ReplicaError.{ReplicaError}
use Rattle.la_replica.specs.declared.error.ReplicaError.TheVariants as replica
use Rattle.la_replica.specs.declared.instance.Instance.{Instance}
use Rattle.la_replica.specs.declared.message.Message as code
use Rattle.la_replica.specs.declared.out.Out as code_out
use Rattle.la_replica.specs.Whole.{Out, whole_mail, whole_out}
use Rattle.la_replica.specs.Received.{received_in, StandsIn}
use Rattle.la_replica.specs.Bases.{offered_by, AreToldIn, AreToldFrom}
use Rattle.la_replica.specs.ReplicaState.{ReplicaState, submits, submitted_in}
use Rattle.la_replica.specs.Refusals.{HasRoom, SubmittingSpares, IsSubmitRefusal, TakesMessage, IsReceivable, ReceivingSpares, IsReceiptRefusal}
use Rattle.la_replica.proofs.lemmas.Growing.{submits_grows}
use Rattle.la_node.specs.declared.done.Done.{Done}
use Rattle.la_node.specs.declared.error.WorldError.{WorldError}
use Rattle.la_node.specs.declared.error.WorldError.TheVariants as world
use Rattle.la_node.specs.Taking.{takes, whole_done}
use Rattle.la_node.specs.Nodes.{IsProposeRefusal, outcome_due}
use Rattle.la_node.specs.Calls.{NodeCall, Submitted, Proposed, Received}
use Rattle.la_node.specs.Accepting.{accepts}
use Rattle.la_node.specs.Telling.{message_told, IsToldAs}
use Rattle.la_node.specs.Steps.{Given, given_done, given_due, given_out, of_submission, of_receipt, step_given, node_step, StepViewsGrow, IsNoStep, RefusedCallsAreNoSteps}
use Rattle.la_node.proofs.Deciding.{Accepts, decides-accepts}
use Rattle.la_node.proofs.Refusing.{refused_submission, refused_message}
use Rattle.la_node.proofs.lemmas.Told.{base_by, wholes, told_all}
use Rattle.la_node.proofs.Growing.{takes_grows}
use Rattle.la_node.proofs.lemmas.Telling.{told_of}

-- ## What is accepted, and what is refused

abbrev step_where : ReplicaState → NodeCall → Bool → Option (Given × ReplicaState)
step_where r call b = cond b (step_given r call) None

pub accepted : (r : ReplicaState) (call : NodeCall) → Accepts r call → node_step r call ≡ step_given r call
accepted r call ok = ap (step_where r call) ((decides-accepts r call).1 ok)

pub not_accepted : (r : ReplicaState) (call : NodeCall) → ¬ Accepts r call → node_step r call ≡ None
not_accepted r call none =
    ap (step_where r call) (false_from_ne_true (accepts r call) (λ is. none ((decides-accepts r call).0 is)))

where_true : {A : Type 0} (b : Bool) (o : Option A) (y : A) → cond b o None ≡ Some y → (b ≡ true) × (o ≡ Some y)
where_true true o y e = (refl, e)
where_true false o y e = absurd (none-some y e)

-- a step was of an accepted call
pub was_accepted : (r : ReplicaState) (call : NodeCall) (made : Given × ReplicaState) → node_step r call ≡ Some made
    → Accepts r call × (step_given r call ≡ Some made)
was_accepted r call made e =
    let both = where_true (accepts r call) (step_given r call) made e in ((decides-accepts r call).0 both.0, both.1)

pub some_of : {A B : Type 0} (f : A → B) (o : Option A) (y : B) → option_map f o ≡ Some y
    → (x : A) × (o ≡ Some x) × (f x ≡ y)
some_of f None y e = absurd (none-some y e)
some_of f (Some x) y e = (x, refl, same_Some (f x) y e)

-- ## A submission or a proposal

abbrev pair : Given → ReplicaState → Option (Given × ReplicaState)
pair g after = Some (g, after)

out_given : (r : ReplicaState) (i : ℕ) (d : ObjectOp) (out : code_out.Out) (after : ReplicaState)
    → submits r i d ≡ Some (whole_out out, after) → AreToldFrom after i zero_counts out.mail
    → option_map of_submission (submits r i d) ≡ Some (given_out out, after)
out_given r i d out after step told =
    ap (option_map of_submission) step
    ∙ ap (λ (mail : List code.Message). pair (record { said = out.said; voted = None; mail = mail; outcome = None }) after)
    (sym (told_all after zero_counts out.mail (told_of after i zero_counts out.mail told)))

pub submitted_steps : (r : ReplicaState) (d : ObjectOp) (out : code_out.Out) (after : ReplicaState) → HasRoom r 0
    → SubmittingSpares r 0 → submits r 0 d ≡ Some (whole_out out, after) → AreToldFrom after 0 zero_counts out.mail
    → node_step r (Submitted d) ≡ Some (given_out out, after)
unfolding step_given
submitted_steps r d out after room spares step told =
    accepted r (Submitted d) (room, spares) ∙ out_given r 0 d out after step told

pub proposed_steps : (r : ReplicaState) (k value : ℕ) (out : code_out.Out) (after : ReplicaState)
    → submitted_in r (first_instance k) ≡ Some 0
    → submits r (first_instance k) (first_vote k value) ≡ Some (whole_out out, after)
    → AreToldFrom after (first_instance k) zero_counts out.mail
    → node_step r (Proposed k value) ≡ Some (given_out out, after)
unfolding step_given
proposed_steps r k value out after first step told =
    accepted r (Proposed k value) first ∙ out_given r (first_instance k) (first_vote k value) out after step told

-- what was made of one that was answered so
pub record WasSubmitted (made : Option (Out × ReplicaState)) (out : code_out.Out) (after : ReplicaState) : Type 0 where
  pub step : made ≡ Some (whole_out out, after)
  pub told : IsToldAs after zero_counts out.mail

was_submitted : (made : Option (Out × ReplicaState)) (out : code_out.Out) (after : ReplicaState)
    → option_map of_submission made ≡ Some (given_out out, after) → WasSubmitted made out after
was_submitted made out after e =
    let x = some_of of_submission made (given_out out, after) e in
    let same : x.0.1 ≡ after = ap (λ (p : Given × ReplicaState). p.1) x.2 in
    let said = ap (λ (p : Given × ReplicaState). p.0.said) x.2 in
    let mail : map (message_told x.0.1 zero_counts) x.0.0.mail ≡ out.mail = ap
    (λ (p : Given × ReplicaState). p.0.mail) x.2 in
    let whole : x.0.0.mail ≡ whole_mail out.mail = sym (wholes (base_by x.0.1 zero_counts) x.0.0.mail)
    ∙ ap whole_mail mail in
    record {
      step = x.1 ∙ (λ j. Some (record { said = said j; mail = whole j }, same j));
      told = sym mail ∙ ap₂ (λ r ms. map (message_told r zero_counts) ms) same whole;
    }

pub submission_was : (r : ReplicaState) (d : ObjectOp) (out : code_out.Out) (after : ReplicaState)
    → node_step r (Submitted d) ≡ Some (given_out out, after) → WasSubmitted (submits r 0 d) out after
unfolding step_given
submission_was r d out after e =
    was_submitted (submits r 0 d) out after (was_accepted r (Submitted d) (given_out out, after) e).1

pub proposal_was : (r : ReplicaState) (k value : ℕ) (out : code_out.Out) (after : ReplicaState)
    → node_step r (Proposed k value) ≡ Some (given_out out, after)
    → WasSubmitted (submits r (first_instance k) (first_vote k value)) out after
unfolding step_given
proposal_was r k value out after e =
    was_submitted (submits r (first_instance k) (first_vote k value)) out after
    (was_accepted r (Proposed k value) (given_out out, after) e).1

-- ## A message

pub received_steps : (r : ReplicaState) (m : code.Message) (done : Done) (outcome : Option Outcome)
    (after : ReplicaState) → StandsIn r m → IsReceivable r (received_in r m) → ReceivingSpares r (received_in r m)
    → takes r (received_in r m) ≡ Some (whole_done done, after)
    → outcome ≡ outcome_due m.instance r.own done.said → AreToldIn after (offered_by (received_in r m)) done.mail
    → node_step r (Received m) ≡ Some (given_done done outcome, after)
unfolding step_given
received_steps r m done outcome after stands fits spares step due told =
    accepted r (Received m) (record { stands = stands; receivable = fits; spares = spares })
    ∙ ap (option_map (of_receipt r m)) step
    ∙ ap₂ (λ (mail : List code.Message) (o : Option Outcome). pair (record { said = done.said; voted = done.voted; mail = mail; outcome = o }) after)
    (sym (told_all after (offered_by (received_in r m)) done.mail told)) (sym due)

-- what was made of one that was answered so
pub record WasReceived (r : ReplicaState) (m : code.Message) (done : Done) (outcome : Option Outcome)
    (after : ReplicaState) : Type 0 where
  pub accepts : TakesMessage r m
  pub step : takes r (received_in r m) ≡ Some (whole_done done, after)
  pub told : IsToldAs after (offered_by (received_in r m)) done.mail
  pub due : outcome ≡ outcome_due m.instance r.own done.said

pub receipt_was : (r : ReplicaState) (m : code.Message) (done : Done) (outcome : Option Outcome) (after : ReplicaState)
    → node_step r (Received m) ≡ Some (given_done done outcome, after) → WasReceived r m done outcome after
unfolding step_given
receipt_was r m done outcome after e =
    let both = was_accepted r (Received m) (given_done done outcome, after) e in
    let offered = offered_by (received_in r m) in
    let x = some_of (of_receipt r m) (takes r (received_in r m)) (given_done done outcome, after) both.1 in
    let same : x.0.1 ≡ after = ap (λ (p : Given × ReplicaState). p.1) x.2 in
    let said = ap (λ (p : Given × ReplicaState). p.0.said) x.2 in
    let voted = ap (λ (p : Given × ReplicaState). p.0.voted) x.2 in
    let mail : map (message_told x.0.1 offered) x.0.0.mail ≡ done.mail = ap (λ (p : Given × ReplicaState). p.0.mail)
    x.2 in
    let whole : x.0.0.mail ≡ whole_mail done.mail = sym (wholes (base_by x.0.1 offered) x.0.0.mail)
    ∙ ap whole_mail mail in
    record {
      accepts = both.0;
      step = x.1 ∙ (λ j. Some (record { said = said j; voted = voted j; mail = whole j }, same j));
      told = sym mail ∙ ap₂ (λ s ms. map (message_told s offered) ms) same whole;
      due =
          sym (ap (λ (p : Given × ReplicaState). p.0.outcome) x.2) ∙ ap (outcome_due m.instance r.own) said;
    }

-- the same of one that is answered with what is due
pub taking_was : (r : ReplicaState) (m : code.Message) (done : Done) (after : ReplicaState)
    → node_step r (Received m) ≡ Some (given_due r m done, after)
    → WasReceived r m done (outcome_due m.instance r.own done.said) after
taking_was r m done after e = receipt_was r m done (outcome_due m.instance r.own done.said) after e

-- ## Refusals

replica_cases : (e : ReplicaError) (P : Type 0) → (e ≢ replica.Memory → P) → (e ≡ replica.Memory) ⊎ P
replica_cases replica.Memory P other = inl refl
replica_cases replica.NoSuchReplica P other = inr (other (λ is. cc))
replica_cases replica.NoSuchInstance P other = inr (other (λ is. cc))
replica_cases replica.Full P other = inr (other (λ is. cc))
replica_cases replica.NoBase P other = inr (other (λ is. cc))
replica_cases replica.Gap P other = inr (other (λ is. cc))
replica_cases (replica.Clash id) P other = inr (other (λ is. cc))
replica_cases replica.BallotsSpent P other = inr (other (λ is. cc))

pub submission_refused : (r : ReplicaState) (d : ObjectOp) (e : ReplicaError) → IsSubmitRefusal r 0 e
    → IsNoStep r (Submitted d) (e ≡ replica.Memory)
submission_refused r d e h =
    replica_cases e (node_step r (Submitted d) ≡ None)
    (λ other. not_accepted r (Submitted d) (refused_submission r e h other))

pub message_refused : (r : ReplicaState) (m : code.Message) (e : ReplicaError) → IsReceiptRefusal r m e
    → IsNoStep r (Received m) (e ≡ replica.Memory)
message_refused r m e h =
    replica_cases e (node_step r (Received m) ≡ None)
    (λ other. not_accepted r (Received m) (refused_message r m e h other))

first_past : (xs : List Instance) (i : ℕ) → length xs ≤ i
    → option_map (λ (x : Instance). submitted x.proposer) (slice_get xs i) ≢ Some 0
first_past xs i past is =
    none-some 0 (sym (ap (option_map (λ (x : Instance). submitted x.proposer)) (slice_get_past xs i past)) ∙ is)

not_first : (o : Option ℕ) → IsSomeAnd o (λ count. 1 ≤ count) → o ≢ Some 0
not_first None some is = some
not_first (Some count) some is = let zero = same_Some count 0 is in omega (arith, some, zero)

pub proposal_refused : (r : ReplicaState) (k value : ℕ) (e : WorldError) → IsProposeRefusal r k e
    → IsNoStep r (Proposed k value) (e ≡ world.Memory)
proposal_refused r k value world.NoSuchCommit h =
    inr (not_accepted r (Proposed k value) (first_past r.instances (first_instance k) h))
proposal_refused r k value world.AlreadyProposed h =
    inr (not_accepted r (Proposed k value) (not_first (submitted_in r (first_instance k)) h))
proposal_refused r k value world.Memory h = inl refl
proposal_refused r k value world.BadConfig h = absurd h
proposal_refused r k value world.NoSuchReplica h = absurd h
proposal_refused r k value world.Full h = absurd h
proposal_refused r k value world.NoSuchMessage h = absurd h
proposal_refused r k value world.NoSuchObject h = absurd h
proposal_refused r k value world.TooManyTags h = absurd h

pub refusals : RefusedCallsAreNoSteps
refusals = record { updates = submission_refused; proposals = proposal_refused; messages = message_refused }

-- ## Views

made_grows : (r : ReplicaState) (call : NodeCall) (made : Given × ReplicaState) → step_given r call ≡ Some made
    → IsSubset r.view made.1.view
unfolding step_given
made_grows r (Submitted d) made e =
    let x = some_of of_submission (submits r 0 d) made e in
    subst (λ (p : Given × ReplicaState). IsSubset r.view p.1.view) x.2 (submits_grows r 0 d x.0.0 x.0.1 x.1)
made_grows r (Proposed k value) made e =
    let x = some_of of_submission (submits r (first_instance k) (first_vote k value)) made e in
    subst (λ (p : Given × ReplicaState). IsSubset r.view p.1.view) x.2
    (submits_grows r (first_instance k) (first_vote k value) x.0.0 x.0.1 x.1)
made_grows r (Received m) made e =
    let x = some_of (of_receipt r m) (takes r (received_in r m)) made e in
    subst (λ (p : Given × ReplicaState). IsSubset r.view p.1.view) x.2
    (takes_grows r (received_in r m) x.0.0 x.0.1 x.1)

pub views_grow : StepViewsGrow
views_grow r after call e =
    let x = some_of (λ (made : Given × ReplicaState). made.1) (node_step r call) after e in
    subst (λ (s : ReplicaState). IsSubset r.view s.view) x.2
    (made_grows r call x.0 (was_accepted r call x.0 x.1).1)
