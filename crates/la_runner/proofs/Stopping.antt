-- Refusals of a member's calls, as reasons why its jobs end.
use Rattle.std.proofs.Common.{inl, inr, ℕ, ◌≤◌, Option, Some, None, sym, subst}
use Rattle.std.specs.Prelude.{IsSomeAnd}
use Rattle.std.specs.List.{slice_get}
use Rattle.la_proposer.specs.declared.error.ProposerError.{ProposerError}
use Rattle.la_proposer.specs.declared.error.ProposerError.TheVariants as proposer
use Rattle.la_proposer.specs.ProposerState.{ProposerState, submitted}
use Rattle.la_proposer.specs.Refusals.{IsSubmitRefusal}
use Rattle.la_set.specs.ObjectOps.{ObjectOp}
use Rattle.la_runner.specs.declared.error.RunnerError.{RunnerError}
use Rattle.la_runner.specs.declared.error.RunnerError.TheVariants.{BadConfig, NoSuchCommit, AlreadyProposed, Clash, Full, BallotsSpent, NoMajority, TryAgain, Memory}
use Rattle.la_runner.specs.Instances.{InstanceState, with_update}
use Rattle.la_runner.specs.Members.{MemberState, InMemberInstance, ballot_number_in}
use Rattle.la_runner.specs.Refusals.{of_member_proposer, IsRoundsRefusal, IsMemberSubmissionRefusal, IsRefusedRounds, IsRefusedUpdate, IsRefusedDecision}
use Rattle.la_runner.specs.Stops.{IsJobError, stop_by, HasSubmittedCap, StopsUpdate, StopsDecide}

-- a refused submission, by the proposer's own refusal
abbrev IsSubmissionError : ProposerState → RunnerError → Type 0
IsSubmissionError p BadConfig = ⊥
IsSubmissionError p NoSuchCommit = ⊥
IsSubmissionError p AlreadyProposed = ⊥
IsSubmissionError p (Clash id) = Unit {0}
IsSubmissionError p Full = p.cap ≤ submitted p
IsSubmissionError p BallotsSpent = Unit {0}
IsSubmissionError p NoMajority = Unit {0}
IsSubmissionError p TryAgain = Unit {0}
IsSubmissionError p Memory = Unit {0}

by_proposer : (p : ProposerState) (r : ProposerError) → IsSubmitRefusal p r → IsSubmissionError p (of_member_proposer r)
by_proposer p proposer.Full h = h
by_proposer p proposer.NoSuchReplica h = absurd h
by_proposer p (proposer.Clash id) h = absurd h
by_proposer p proposer.BallotsSpent h = tt
by_proposer p proposer.Memory h = tt

submission : (p : ProposerState) (e : RunnerError) → IsMemberSubmissionRefusal p e → IsSubmissionError p e
submission p e h = subst (IsSubmissionError p) (sym h.1) (by_proposer p h.0 h.2)

some_and : {A : Type 0} (o : Option A) (P Q : A → Type 0) → ((x : A) → P x → Q x) → IsSomeAnd o P → IsSomeAnd o Q
some_and None P Q f h = h
some_and (Some x) P Q f h = f x h

never : {A : Type 0} (o : Option A) (P : A → Type 0) → ((x : A) → P x → ⊥) → IsSomeAnd o P → ⊥
never None P f h = h
never (Some x) P f h = f x h

-- rounds are never refused so
rounds_never : (rounds : ℕ) (d : ObjectOp) (old new : MemberState) (e : RunnerError)
    → ((n m : ℕ) → IsRoundsRefusal rounds n m e → ⊥)
    → InMemberInstance old 0 (λ x. IsRefusedRounds rounds (with_update d x) 0 new e) → ⊥
rounds_never rounds d old new e f h =
    never (slice_get old.instances 0) (λ (x : InstanceState). IsRefusedRounds rounds (with_update d x) 0 new e)
    (λ x r. f (with_update d x).proposer.number (ballot_number_in new 0) r.refusal) h

-- an update's refusal is one that a job may meet, and a reason why the jobs end
pub update_error : (rounds : ℕ) (d : ObjectOp) (old new : MemberState) (e : RunnerError)
    → IsRefusedUpdate rounds d old new e → IsJobError e
update_error rounds d old new BadConfig (inl h) =
    never (slice_get old.instances 0) (λ (x : InstanceState). IsMemberSubmissionRefusal x.proposer BadConfig)
    (λ x. submission x.proposer BadConfig) h.0
update_error rounds d old new BadConfig (inr h) = rounds_never rounds d old new BadConfig (λ n m r. r) h.1
update_error rounds d old new NoSuchCommit h = tt
update_error rounds d old new AlreadyProposed h = tt
update_error rounds d old new (Clash id) h = tt
update_error rounds d old new Full h = tt
update_error rounds d old new BallotsSpent h = tt
update_error rounds d old new NoMajority h = tt
update_error rounds d old new TryAgain h = tt
update_error rounds d old new Memory h = tt

pub update_stops : (rounds : ℕ) (d : ObjectOp) (old new : MemberState) (e : RunnerError)
    → IsRefusedUpdate rounds d old new e → StopsUpdate new (stop_by e)
update_stops rounds d old new BadConfig h = tt
update_stops rounds d old new NoSuchCommit (inl h) =
    never (slice_get old.instances 0) (λ (x : InstanceState). IsMemberSubmissionRefusal x.proposer NoSuchCommit)
    (λ x. submission x.proposer NoSuchCommit) h.0
update_stops rounds d old new NoSuchCommit (inr h) = rounds_never rounds d old new NoSuchCommit (λ n m r. r) h.1
update_stops rounds d old new AlreadyProposed (inl h) =
    never (slice_get old.instances 0) (λ (x : InstanceState). IsMemberSubmissionRefusal x.proposer AlreadyProposed)
    (λ x. submission x.proposer AlreadyProposed) h.0
update_stops rounds d old new AlreadyProposed (inr h) = rounds_never rounds d old new AlreadyProposed (λ n m r. r) h.1
update_stops rounds d old new (Clash id) h = tt
update_stops rounds d old new Full (inl h) =
    subst HasSubmittedCap (sym h.1)
    (some_and (slice_get old.instances 0) (λ (x : InstanceState). IsMemberSubmissionRefusal x.proposer Full)
    (λ (x : InstanceState). x.proposer.cap ≤ submitted x.proposer) (λ x. submission x.proposer Full) h.0)
update_stops rounds d old new Full (inr h) = absurd (rounds_never rounds d old new Full (λ n m r. r) h.1)
update_stops rounds d old new BallotsSpent h = tt
update_stops rounds d old new NoMajority h = tt
update_stops rounds d old new TryAgain h = tt
update_stops rounds d old new Memory h = tt

-- the same of a decision
pub decide_error : (rounds k value : ℕ) (old new : MemberState) (e : RunnerError)
    → IsRefusedDecision rounds k value old new e → IsJobError e
decide_error rounds k value old new BadConfig h = h
decide_error rounds k value old new NoSuchCommit h = tt
decide_error rounds k value old new AlreadyProposed h = tt
decide_error rounds k value old new (Clash id) h = tt
decide_error rounds k value old new Full h = tt
decide_error rounds k value old new BallotsSpent h = tt
decide_error rounds k value old new NoMajority h = tt
decide_error rounds k value old new TryAgain h = tt
decide_error rounds k value old new Memory h = tt

pub decide_stops : (rounds k value : ℕ) (old new : MemberState) (e : RunnerError)
    → IsRefusedDecision rounds k value old new e → StopsDecide new k value (stop_by e)
decide_stops rounds k value old new BadConfig h = tt
decide_stops rounds k value old new NoSuchCommit h =
    subst (λ m. StopsDecide m k value (stop_by NoSuchCommit)) (sym h.1) h.0
decide_stops rounds k value old new AlreadyProposed h =
    subst (λ m. StopsDecide m k value (stop_by AlreadyProposed)) (sym h.2) (h.0, h.1)
decide_stops rounds k value old new (Clash id) h = tt
decide_stops rounds k value old new Full h = absurd h
decide_stops rounds k value old new BallotsSpent h = tt
decide_stops rounds k value old new NoMajority h = tt
decide_stops rounds k value old new TryAgain h = tt
decide_stops rounds k value old new Memory h = tt
