-- From what an instance is told to what its replica is.
use Rattle.std.proofs.Common.{◌≡◌, ℕ, ◌<◌, length, get_or, slice_get, Bool, Option, Some, None, IsSomeAnd, option_map, Result, Ok, Err, IfOk, IfErr, refl, sym, ap, subst, ◌∙◌, arith}
use Rattle.std.proofs.lemmas.Option.{slice_get_read, slice_get_within, get_or_from_slice_get, same_Some}
use Rattle.std.proofs.lemmas.List.Elements.{All-append, All-weaker}
use Rattle.std.specs.Prelude.{List}
use Rattle.la_set.specs.declared.counts.Counts.{Counts}
use Rattle.la_proposer.specs.ProposerState.{reported}
use Rattle.la_replica.specs.declared.instance.Instance.{Instance}
use Rattle.la_replica.specs.declared.message.Message as code
use Rattle.la_replica.specs.declared.change.Change.{Change}
use Rattle.la_replica.specs.declared.out.Out.{Out}
use Rattle.la_replica.specs.declared.error.ReplicaError.{ReplicaError}
use Rattle.la_replica.specs.declared.error.ReplicaError.TheVariants.{NoSuchReplica, NoSuchInstance, Full, NoBase, Gap, Clash, BallotsSpent, Memory}
use Rattle.la_set.specs.ObjectOps.{ObjectOp}
use Rattle.la_set.specs.Histories.{Histories}
use Rattle.la_replica.specs.declared.sender.Sender.{Sender}
use Rattle.la_replica.specs.Whole as out_of
use Rattle.la_replica.specs.Whole.{Message, whole_out}
use Rattle.la_replica.specs.Steps as steps
use Rattle.la_replica.specs.Invariant.{IsOf, IsReplicaState}
use Rattle.la_replica.specs.ReplicaState.{ReplicaState, InInstance, with_instance, sender_of, after_step, submits, receives}
use Rattle.la_replica.specs.Refusals.{IsSubmissionRefusal, IsSubmitRefusal}
use Rattle.la_replica.specs.Changes.{proposer_after, at_after, view_next, step_by, IsProposerFrom, LeavesAgreeing}
use Rattle.la_replica.specs.Changes.{IsPreparedFrom, AreSameIn, LeadsThere, led, candidate, is_taken}
use Rattle.la_replica.specs.Prepared.{PreparesMessageAt, PreparesSubmissionAt, AreToldNext, PreparesReceiptIn}
use Rattle.la_replica.specs.Prepared.{PreparesSubmissionIn}
use Rattle.la_proposer.specs.declared.tally.Verdict.{Verdict}
use Rattle.la_replica.proofs.Agreeing.{message_leaves, submission_leaves}
use Rattle.la_replica.proofs.Beside.{get_put}
use Rattle.la_replica.proofs.Calls.{at_within}
use Rattle.la_replica.specs.Bases.{IsToldBody, IsToldBy, AreToldBy, AddsTold, IsToldIn, AreToldIn, AreToldFrom, AreToldAfter, offered_by}

-- what a list has at a place is there
pub there_now : (m r : ReplicaState) → m ≡ r → (i : ℕ) (x : Instance) → i < length m.instances
    → x ≡ get_or m.instances i x → slice_get r.instances i ≡ Some x
there_now m r is i x in_list is_at =
    subst (λ (q : ReplicaState). slice_get q.instances i ≡ Some x) is
    (slice_get_read m.instances (length m.instances) i x refl in_list is_at)

pub there_by : (m r : ReplicaState) → m ≡ r → (i : ℕ) (x : Instance) (P : Instance → Type 0) → InInstance r i P
    → x ≡ get_or m.instances i x → slice_get r.instances i ≡ Some x
there_by m r is i x P some is_at =
    there_now m r is i x (subst (λ (q : ReplicaState). i < length q.instances) (sym is) (at_within P r.instances i some))
    is_at

module _ (r : ReplicaState) (i : ℕ) (x : Instance) (offered : Counts) (there : slice_get r.instances i ≡ Some x) where
  told_there : (m : code.Message) → IsToldBy x.proposer i offered m → IsToldIn r offered m
  told_there m told =
      subst (λ o. IsSomeAnd o (λ z. IsToldBody (reported z.proposer m.to) offered m.body))
      (sym (ap (slice_get r.instances) told.0 ∙ there)) told.1

  pub more_told : (before after : List code.Message) → AddsTold x.proposer i offered before after
      → AreToldIn r offered before → AreToldIn r offered after
  more_told before after adds told =
      subst (AreToldIn r offered) (sym adds.1)
      (All-append (IsToldIn r offered) before adds.0 told
      (All-weaker (IsToldBy x.proposer i offered) (IsToldIn r offered) told_there adds.0 adds.2))

module _ (r : ReplicaState) (i : ℕ) (x : Instance) (there : slice_get r.instances i ≡ Some x) where
  pub ok_there : {A E : Type 0} (P : Instance → Type 0) (result : Result A E) → IfOk result (λ _. P x)
      → IfOk result (λ _. InInstance r i P)
  ok_there P (Ok made) h = subst (λ o. IsSomeAnd o P) (sym there) h
  ok_there P (Err e) h = h

  refused_there : (e : ReplicaError) → IsSubmissionRefusal x.proposer e → IsSubmitRefusal r i e
  refused_there NoSuchReplica h = absurd h
  refused_there NoSuchInstance h = absurd h
  refused_there NoBase h = absurd h
  refused_there Gap h = absurd h
  refused_there (Clash id) h = absurd h
  refused_there Full h = subst (λ o. IsSomeAnd o (λ z. IsSubmissionRefusal z.proposer Full)) (sym there) h
  refused_there BallotsSpent h =
      subst (λ o. IsSomeAnd o (λ z. IsSubmissionRefusal z.proposer BallotsSpent)) (sym there) h
  refused_there Memory h = subst (λ o. IsSomeAnd o (λ z. IsSubmissionRefusal z.proposer Memory)) (sym there) h

  pub submit_refused : {A : Type 0} (result : Result A ReplicaError) → IfErr result (IsSubmissionRefusal x.proposer)
      → IfErr result (IsSubmitRefusal r i)
  submit_refused (Ok made) h = h
  submit_refused (Err e) h = refused_there e h

-- what is told by what a proposer becomes is told by the replica once that is committed
told_after : (s : ReplicaState) (x : Instance) (c : Change) (offered : Counts) (mail : List code.Message)
    → slice_get s.instances c.instance ≡ Some x → AreToldBy (proposer_after x.proposer c.proposer) c.instance offered mail
    → AreToldAfter s c offered mail
told_after s x c offered mail there told after e =
    let put = with_instance s c.instance (at_after x c) (view_next s.view c.view) in
    let is : after ≡ put =
    same_Some after put
    (sym
    (sym (ap (option_map (λ z. with_instance s c.instance (at_after z c) (view_next s.view c.view))) there) ∙ e))
    in
    let stands : slice_get put.instances c.instance ≡ Some (at_after x c) =
    get_put s.instances c.instance x (at_after x c) there in
    subst (λ r. AreToldFrom r c.instance offered mail) (sym is)
    (All-weaker (IsToldBy (proposer_after x.proposer c.proposer) c.instance offered) (λ m. (m.instance ≡ c.instance) × IsToldIn put offered m)
    (λ m t. (t.0, told_there put c.instance (at_after x c) offered stands m t)) mail told)

-- ## What is prepared leaves the view and the ballots in agreement

-- what stands in this instance, once this is committed there, with what is answered
abbrev led_at : ReplicaState → Out → Change → (instance : ℕ) → Instance → out_of.Out × ReplicaState
led_at r out c i x = (whole_out out, with_instance r i (at_after x c) (view_next r.view c.view))

abbrev led_from : ReplicaState → Out → Change → Option Instance → Option (out_of.Out × ReplicaState)
led_from r out c o =
    option_map {U = out_of.Out × ReplicaState} (λ (after : ReplicaState). (whole_out out, after))
    (option_map (λ x. with_instance r c.instance (at_after x c) (view_next r.view c.view)) o)

-- an instance's proposer is one of eight
one_of_eight : (r : ReplicaState) (i : ℕ) (x : Instance) → IsReplicaState r → slice_get r.instances i ≡ Some x
    → x.proposer.own < 8
one_of_eight r i x state there =
    let of : IsOf r.votes r.own x =
    subst (IsOf r.votes r.own) (get_or_from_slice_get r.instances i x x there)
    (state.alike i x (slice_get_within r.instances i x there)) in
    omega (arith, of.1, state.known, state.few)

-- what an instance's step leads to is what the replica's does
leads_in : (r : ReplicaState) (x : Instance) (m : Message) (s : Sender) (out : Out) (c : Change)
    → slice_get r.instances m.instance ≡ Some x → s ≡ sender_of r m.instance → c.instance ≡ m.instance
    → steps.receives s x r.view m ≡ step_by x r.view (whole_out out) c → receives r m ≡ led r (whole_out out) c
leads_in r x m s out c there is here step =
    let i = m.instance in
    ap (option_map (λ z. after_step r i (steps.receives (sender_of r i) z r.view m))) there
    ∙ ap (λ q. Some (after_step r i (steps.receives q x r.view m))) (sym is)
    ∙ ap (λ z. Some (after_step r i z)) step
    ∙ sym (ap (led_from r out c) (ap (slice_get r.instances) here ∙ there) ∙ ap (λ j. Some (led_at r out c j x)) here)

pub message_prepared : {E : Type 0} (r : ReplicaState) (x : Instance) (m : Message) → IsReplicaState r
    → slice_get r.instances m.instance ≡ Some x → (s : Sender) → s ≡ sender_of r m.instance
    → (v : Option Verdict) (taken : Bool) → taken ≡ is_taken r.view (candidate x v m)
    → (result : Result (Out × Change) E) → IfOk result (PreparesMessageAt s x v taken m)
    → IfOk result (AreToldNext x m.instance (offered_by m)) → IfOk result (PreparesReceiptIn r m)
message_prepared r x m state there s is v taken decided (Ok prepared) at told =
    let step = at.step r.view decided in
    let here = ap (slice_get r.instances) at.instance ∙ there in
    record {
      step = leads_in r x m s prepared.0 prepared.1 there is at.instance step;
      from =
          subst
          (λ o. IsSomeAnd o (λ z. IsProposerFrom z.proposer prepared.1.proposer × LeavesAgreeing r.view z prepared.1))
          (sym here) (
            at.from,
            message_leaves x r.view prepared.0 prepared.1 s m (one_of_eight r m.instance x state there) step at.agreed,
          );
      told =
          told_after r x prepared.1 (offered_by m) prepared.0.mail here
          (subst
          (λ j. AreToldBy (proposer_after x.proposer prepared.1.proposer) j (offered_by m) prepared.0.mail)
          (sym at.instance) told);
      instance = at.instance;
    }
message_prepared r x m state there s is v taken decided (Err e) at told = at

module _ (r : ReplicaState) (i : ℕ) (x : Instance) (d : ObjectOp) (known : x.proposer.own < 8)
    (there : slice_get r.instances i ≡ Some x) (out : Out) (c : Change) (here : c.instance ≡ i)
    (from : IsProposerFrom x.proposer c.proposer) (none : c.agreed ≡ None)
    (step : (view : Histories) → steps.submits (sender_of r i) x view d ≡ step_by x view (whole_out out) c) where
  stays_prepared : (s : ReplicaState) → AreSameIn i r s → IsPreparedFrom s c
  stays_prepared s same =
      subst (λ o. IsSomeAnd o (λ z. IsProposerFrom z.proposer c.proposer × LeavesAgreeing s.view z c))
      (sym (ap (slice_get s.instances) here ∙ same.there ∙ there))
      (from, submission_leaves x s.view out c (sender_of r i) d known (step s.view) none)

  same_sender : (s : ReplicaState) → AreSameIn i r s → sender_of s i ≡ sender_of r i
  same_sender s same = λ j. record { replicas = length (same.votes j); from = same.own j; instance = i }

  stays_step : (s : ReplicaState) → AreSameIn i r s → submits s i d ≡ led s (whole_out out) c
  stays_step s same =
      ap (option_map (λ z. after_step s i (steps.submits (sender_of s i) z s.view d))) (same.there ∙ there)
      ∙ ap (λ q. Some (after_step s i (steps.submits q x s.view d))) (same_sender s same)
      ∙ ap (λ z. Some (after_step s i z)) (step s.view)
      ∙ sym
      (ap (led_from s out c) (ap (slice_get s.instances) here ∙ same.there ∙ there)
      ∙ ap (λ j. Some (led_at s out c j x)) here)

  leads_there : LeadsThere r i d (whole_out out) c
  leads_there s same = (stays_prepared s same, stays_step s same)

pub submission_prepared : {E : Type 0} (r : ReplicaState) (i : ℕ) (x : Instance) (d : ObjectOp) → IsReplicaState r
    → slice_get r.instances i ≡ Some x → (s : Sender) → s ≡ sender_of r i → (result : Result (Out × Change) E)
    → IfOk result (PreparesSubmissionAt s x d) → IfOk result (PreparesSubmissionIn r i d)
submission_prepared r i x d state there s is (Ok prepared) of_sender =
    let at = subst (λ q. PreparesSubmissionAt q x d prepared) is of_sender in
    record {
      leads =
          leads_there r i x d (one_of_eight r i x state there) there prepared.0 prepared.1 at.instance at.from at.agreed
          at.step;
      told =
          λ t offered same.
          told_after t x prepared.1 offered prepared.0.mail
          (ap (slice_get t.instances) at.instance ∙ same.there ∙ there)
          (subst (λ j. AreToldBy (proposer_after x.proposer prepared.1.proposer) j offered prepared.0.mail)
          (sym at.instance) (at.told offered));
      instance = at.instance;
    }
submission_prepared r i x d state there s is (Err e) of_sender = of_sender
