-- A call that is refused, but not for want of memory, is not accepted.
use Rattle.std.proofs.Common.{◌≡◌, ◌≢◌, ℕ, ◌<◌, ◌≤◌, true, List, length, slice_get, Option, Some, None, IsSomeAnd, IfSome, refl, subst, arith}
use Rattle.std.proofs.Common.{⊎_elim}
use Rattle.std.proofs.lemmas.Option.{slice_get_past}
use Rattle.la_set.specs.Histories.{Histories}
use Rattle.la_set.specs.Deltas.{IsOver, IsRebuildRefusal}
use Rattle.la_set.specs.Join.{IsCompatible}
use Rattle.la_set.specs.declared.error.SetError.TheVariants as set_error
use Rattle.la_set.proofs.lemmas.Agreements.{clash_compatible}
use Rattle.la_acceptor.specs.declared.reply.Reply.{Reply}
use Rattle.la_acceptor.specs.declared.reply.Reply.TheVariants as replied
use Rattle.la_proposer.specs.ProposerState.{ProposerState, submitted, counts, with_reply}
use Rattle.la_proposer.specs.Refusals.{SubmissionSpends, ReplySpends}
use Rattle.la_proposer.specs.Clashes.{Fits}
use Rattle.la_replica.specs.declared.error.ReplicaError.{ReplicaError}
use Rattle.la_replica.specs.declared.error.ReplicaError.TheVariants.{NoSuchReplica, NoSuchInstance, Full, NoBase, Gap, Clash, BallotsSpent, Memory}
use Rattle.la_replica.specs.declared.instance.Instance.{Instance}
use Rattle.la_replica.specs.declared.message.Message as code
use Rattle.la_replica.specs.Whole.{Message, Body, Offer, Yes, No, Tell}
use Rattle.la_replica.specs.Received.{Told, told_at, received_in, StandsAt, IsUnbuilt}
use Rattle.la_replica.specs.ReplicaState.{ReplicaState}
use Rattle.la_replica.specs.Refusals.{IsSubmissionRefusal, IsSubmitRefusal, IsAnswerRefusal, IsHearingRefusal, IsTellRefusal, IsBodyRefusal, IsMessageRefusal, IsReceiptRefusal}
use Rattle.la_replica.specs.Refusals.{HasRoom, SubmittingSpares, FitsBody, SparesBody, FitsMessage, SparesMessage, TakesMessage}

not_past : {A : Type 0} (xs : List A) (k : ℕ) (P : A → Type 0) → length xs ≤ k → IsSomeAnd (slice_get xs k) P → ⊥
not_past xs k P past some = subst (λ o. IsSomeAnd o P) (slice_get_past xs k past) some

-- ## A submission

in_submission : (o : Option Instance) (e : ReplicaError) → IsSomeAnd o (λ x. IsSubmissionRefusal x.proposer e)
    → e ≢ Memory
    → IsSomeAnd o (λ x. submitted x.proposer < x.proposer.cap) × IsSomeAnd o (λ x. ¬ SubmissionSpends x.proposer) → ⊥
in_submission None e h other ok = h
in_submission (Some x) Full h other ok = omega (arith, h, ok.0)
in_submission (Some x) BallotsSpent h other ok = ok.1 h.1
in_submission (Some x) Memory h other ok = other refl
in_submission (Some x) NoSuchReplica h other ok = h
in_submission (Some x) NoSuchInstance h other ok = h
in_submission (Some x) NoBase h other ok = h
in_submission (Some x) Gap h other ok = h
in_submission (Some x) (Clash id) h other ok = h

pub refused_submission : (r : ReplicaState) (e : ReplicaError) → IsSubmitRefusal r 0 e → e ≢ Memory
    → HasRoom r 0 × SubmittingSpares r 0 → ⊥
refused_submission r NoSuchInstance h other ok =
    not_past r.instances 0 (λ x. submitted x.proposer < x.proposer.cap) h ok.0
refused_submission r Full h other ok = in_submission (slice_get r.instances 0) Full h other ok
refused_submission r BallotsSpent h other ok = in_submission (slice_get r.instances 0) BallotsSpent h other ok
refused_submission r Memory h other ok = other refl
refused_submission r NoSuchReplica h other ok = in_submission (slice_get r.instances 0) NoSuchReplica h other ok
refused_submission r NoBase h other ok = in_submission (slice_get r.instances 0) NoBase h other ok
refused_submission r Gap h other ok = in_submission (slice_get r.instances 0) Gap h other ok
refused_submission r (Clash id) h other ok = in_submission (slice_get r.instances 0) (Clash id) h other ok

-- ## A message

answer_refused : (accepted offered : Histories) (e : ReplicaError) → IsAnswerRefusal accepted offered e → e ≢ Memory
    → IsCompatible accepted offered → ⊥
answer_refused accepted offered (Clash id) h other ok = clash_compatible accepted offered id h.clashes ok
answer_refused accepted offered Memory h other ok = other refl
answer_refused accepted offered NoSuchReplica h other ok = h
answer_refused accepted offered NoSuchInstance h other ok = h
answer_refused accepted offered Full h other ok = h
answer_refused accepted offered NoBase h other ok = h
answer_refused accepted offered Gap h other ok = h
answer_refused accepted offered BallotsSpent h other ok = h

hearing_refused : (p : ProposerState) (m : Message) (reply : Reply) (e : ReplicaError) → IsHearingRefusal p m reply e
    → e ≢ Memory → (counts p m.from m.ballot ≡ true → Fits p reply)
    → (counts p m.from m.ballot ≡ true → ¬ ReplySpends (with_reply p m.from reply)) → ⊥
hearing_refused p m reply (Clash id) h other fits spares = fits h.0 id h.1.0
hearing_refused p m reply BallotsSpent h other fits spares = spares h.0 h.2
hearing_refused p m reply Memory h other fits spares = other refl
hearing_refused p m reply NoSuchReplica h other fits spares = h
hearing_refused p m reply NoSuchInstance h other fits spares = h
hearing_refused p m reply Full h other fits spares = h
hearing_refused p m reply NoBase h other fits spares = h
hearing_refused p m reply Gap h other fits spares = h

tell_refused : (i : ℕ) (view told : Histories) (e : ReplicaError) → IsTellRefusal i view told e → e ≢ Memory → ⊥
tell_refused i view told Memory h other = other refl
tell_refused i view told (Clash id) h other = h
tell_refused i view told BallotsSpent h other = h
tell_refused i view told NoSuchReplica h other = h
tell_refused i view told NoSuchInstance h other = h
tell_refused i view told Full h other = h
tell_refused i view told NoBase h other = h
tell_refused i view told Gap h other = h

body_refused : (x : Instance) (view : Histories) (m : Message) (b : Body) (e : ReplicaError)
    → IsBodyRefusal x view m b e → e ≢ Memory → FitsBody x m b → SparesBody x m b → ⊥
body_refused x view m (Offer offered) e h other fits spares = answer_refused x.acceptor offered e h other fits
body_refused x view m Yes e h other fits spares =
    hearing_refused x.proposer m replied.Yes e h other (λ is id clash. clash) spares
body_refused x view m (No accepted) e h other fits spares =
    hearing_refused x.proposer m (replied.No accepted) e h other fits spares
body_refused x view m (Tell told) e h other fits spares = tell_refused m.instance view told e h other

in_message : (o : Option Instance) (view : Histories) (m : Message) (e : ReplicaError)
    → IsSomeAnd o (λ x. IsMessageRefusal x view m e) → e ≢ Memory → IsSomeAnd o (λ x. FitsMessage x m)
    → IsSomeAnd o (λ x. SparesMessage x m) → ⊥
in_message None view m e h other fits spares = h
in_message (Some x) view m e h other fits spares = body_refused x view m m.body e h other fits spares

less_known : (t : Option Told) → IsSomeAnd t (λ t. IsRebuildRefusal t.over t.delta set_error.NoBase)
    → IfSome t (λ t. IsOver t.over t.delta) → ⊥
less_known None h ok = h
less_known (Some t) h ok = h ok.base

not_next : (t : Option Told) → IsSomeAnd t (λ t. IsRebuildRefusal t.over t.delta set_error.Gap)
    → IfSome t (λ t. IsOver t.over t.delta) → ⊥
not_next None h ok = h
not_next (Some t) h ok = h.1 ok.next

in_less_known : (o : Option Instance) (m : code.Message) → IsSomeAnd o (λ x. IsUnbuilt x m set_error.NoBase)
    → IsSomeAnd o (λ x. StandsAt x m) → ⊥
in_less_known None m h ok = h
in_less_known (Some x) m h ok = less_known (told_at x m) h ok

in_not_next : (o : Option Instance) (m : code.Message) → IsSomeAnd o (λ x. IsUnbuilt x m set_error.Gap)
    → IsSomeAnd o (λ x. StandsAt x m) → ⊥
in_not_next None m h ok = h
in_not_next (Some x) m h ok = not_next (told_at x m) h ok

pub refused_message : (r : ReplicaState) (m : code.Message) (e : ReplicaError) → IsReceiptRefusal r m e → e ≢ Memory
    → TakesMessage r m → ⊥
refused_message r m NoSuchReplica h other ok =
    ⊎_elim (λ past. omega (arith, past, ok.receivable.0.0)) (λ differ. differ ok.receivable.0.1) h
refused_message r m NoSuchInstance h other ok = not_past r.instances m.instance (λ x. StandsAt x m) h.1 ok.stands
refused_message r m NoBase h other ok = in_less_known (slice_get r.instances m.instance) m h.1 ok.stands
refused_message r m Gap h other ok = in_not_next (slice_get r.instances m.instance) m h.1 ok.stands
refused_message r m Full h other ok =
    in_message (slice_get r.instances m.instance) r.view (received_in r m) Full h.1.1 other ok.receivable.1 ok.spares
refused_message r m (Clash id) h other ok =
    in_message (slice_get r.instances m.instance) r.view (received_in r m) (Clash id) h.1.1 other ok.receivable.1
    ok.spares
refused_message r m BallotsSpent h other ok =
    in_message (slice_get r.instances m.instance) r.view (received_in r m) BallotsSpent h.1.1 other ok.receivable.1
    ok.spares
refused_message r m Memory h other ok = other refl
