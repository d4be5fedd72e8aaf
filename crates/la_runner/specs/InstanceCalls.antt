-- What the calls of a member in one instance require, and what they leave and answer.
use Rattle.std.specs.Prelude.{◌≡◌, ◌⊎◌, ℕ, ◌<◌, ◌≤◌, true, false, List, [], ◌∷◌, ◌++◌, Option, Some, None, IfSome, IsSome, Result, Ok, IfOk, OnOk, IfErr, OnErr}
use Rattle.la_set.specs.ObjectOps.{ObjectOp}
use Rattle.la_set.specs.Histories.{Histories}
use Rattle.la_set.specs.Inclusion.{IsSubset}
use Rattle.la_commit.specs.declared.vote.Vote.{Vote}
use Rattle.la_proposer.specs.declared.heard.Heard.{Heard}
use Rattle.la_proposer.specs.Inputs.{all_submitted}
use Rattle.la_shared.specs.Passes.{AcceptorName}
use Rattle.la_runner.specs.declared.error.RunnerError.{RunnerError}
use Rattle.la_runner.specs.declared.instance.Learning.{Learning}
use Rattle.la_runner.specs.declared.learned.Learned.{Learned}
use Rattle.la_runner.specs.Heard.{Hears, HearsMost}
use Rattle.la_runner.specs.Following.{acceptors_of, Goes, IsLearnt, IfLearnt, StaysOpen, SubmitsNothing}
use Rattle.la_runner.specs.Instances.{InstanceState, IsInstance, InstanceSteps, IsComplete, IsUpdated, MayCast, HasCast}
use Rattle.la_runner.specs.Refusals.{IsRoundOfferRefusal, IsInstanceRefusal, IsUpdateRefusal, IsVoteRefusal, IsVoteError}
use Rattle.la_runner.specs.Rounds.{IsLarger, IsLast, IsLastAnswer, IsOpenAfter, IsOpenAnswer, IsViewAfter}
use Rattle.la_runner.specs.Sound.{IsSound}

-- ## What is required

-- a sound instance, whose passes are of these acceptors
pub record HasAcceptors (row : List AcceptorName) (x : InstanceState) : Type 0 where
  pub sound : IsSound x.proposer x.passes
  pub acceptors : acceptors_of x.passes ≡ row

-- an instance as it is between calls, whose passes are of these acceptors
pub record IsInstanceOf (row : List AcceptorName) (x : InstanceState) : Type 0 where
  pub is : IsInstance x
  pub acceptors : acceptors_of x.passes ≡ row

-- such an instance of the replica with this number
pub record IsOwnInstanceOf (row : List AcceptorName) (replica : ℕ) (x : InstanceState) : Type 0 where
  pub is : IsInstance x
  pub acceptors : acceptors_of x.passes ≡ row
  pub own : replica ≡ x.proposer.own

-- in which, too, a ballot is open
pub record IsOpenInstanceOf (row : List AcceptorName) (replica : ℕ) (x : InstanceState) : Type 0 where
  pub is : IsInstance x
  pub acceptors : acceptors_of x.passes ≡ row
  pub own : replica ≡ x.proposer.own
  pub asks : x.proposer.is_asking ≡ true

-- in which the replica may cast a vote for an adopt-commit object
pub record IsVoterInstanceOf (row : List AcceptorName) (replica commit : ℕ) (v : Vote) (x : InstanceState) :
    Type 0 where
  pub is : IsInstance x
  pub acceptors : acceptors_of x.passes ≡ row
  pub own : replica ≡ x.proposer.own
  pub may : MayCast commit v x

-- ## Offers and rounds

-- a call that makes offers, whatever it answers: the member goes on, submits nothing, and hears all replies; only a
-- refusal of an offer or of its reply leaves one at most unheard
pub record GoesOnAsking {A : Type 0} (result : Result A RunnerError) (old new : InstanceState) : Type 0 where
  pub goes : Goes old.proposer old.passes new.proposer new.passes
  pub heard : OnOk result (Hears old.proposer new.proposer old.passes new.passes [])
  pub missed : OnErr result (HearsMost old.proposer new.proposer old.passes new.passes)
  pub error : IfErr result IsRoundOfferRefusal

-- one offer: what its reply came to, and which ballot that leaves open; a refusal leaves the proposer as it was. The
-- last learnt set and the view are as before
pub record LeavesOffer (result : Result Heard RunnerError) (old new : InstanceState) : Type 0 where
  pub learnt : IfOk result (λ heard. IfLearnt heard (IsLearnt old.proposer old.passes new.passes old.proposer.number))
  pub stays : IfOk result (λ heard. StaysOpen heard old.proposer new.proposer)
  pub vain : OnErr result (new.proposer ≡ old.proposer)
  pub kept : new.learnt ≡ old.learnt
  pub view : new.view ≡ old.view

-- one round: the set that it learnt, if any, is then the last one, and comes with a copy; a ballot that was open
-- leaves one open, unless all that was submitted was learnt. The view is as before
pub record EndsRound (result : Result (Option Learning) RunnerError) (old new : InstanceState) : Type 0 where
  pub learnt :
      IfOk result
      (λ end. IfSome end (λ l. IsLearnt old.proposer old.passes new.passes l.ballot l.updates))
  pub again : IfOk result (λ end. IfSome end (λ l. l.again ≡ l.updates))
  pub last : IsLast result old.learnt new.learnt
  pub open_after : old.proposer.is_asking ≡ true → IsOpenAfter result new.proposer
  pub view : new.view ≡ old.view

-- one round, after which the view is the larger of the old one and the learnt set
pub record EndsInView (result : Result (Option Learned) RunnerError) (old new : InstanceState) : Type 0 where
  pub learnt :
      IfOk result
      (λ end. IfSome end (λ l. IsLearnt old.proposer old.passes new.passes l.ballot l.updates))
  pub last : IsLastAnswer result old.learnt new.learnt
  pub open_after : old.proposer.is_asking ≡ true → IsOpenAnswer result new.proposer
  pub step : (new.view ≡ old.view) ⊎ IsSubset new.view new.proposer.updates
  pub after : IsViewAfter result old.view new.view

-- ## At most so many rounds

-- whatever they answer: the instance steps on, and nothing is submitted; and how they are refused
pub record RunsRounds {A : Type 0} (rounds : ℕ) (result : Result A RunnerError) (old new : InstanceState) :
    Type 0 where
  pub steps : InstanceSteps old new
  pub nothing : SubmitsNothing old.proposer new.proposer
  pub error : IfErr result (IsInstanceRefusal rounds old new)

-- the set that they learnt is complete and the last one, and the view is the larger of the old one and it
pub record IsLearntNow (old new : InstanceState) (s : Histories) : Type 0 where
  pub complete : IsComplete old new s
  pub larger : IsLarger s old.view new.view
  pub last : new.learnt ≡ Some s

-- of a call that learns: the set, and how many rounds are left
pub record LearnsIn (rounds : ℕ) (old new : InstanceState) (end : Learned × ℕ) : Type 0 where
  pub learnt : IsLearnt old.proposer old.passes new.passes end.0.ballot end.0.updates
  pub now : IsLearntNow old new end.0.updates
  pub left : end.1 < rounds

-- of one that goes on with what is under way: nothing comes, and nothing changes, exactly where no ballot was open
pub record ResumesIn (result : Result (Option Learned) RunnerError) (old new : InstanceState) : Type 0 where
  pub idle : old.proposer.is_asking ≡ false → (result ≡ Ok None) × (new ≡ old)
  pub asking : old.proposer.is_asking ≡ true → IfOk result IsSome
  pub now : IfOk result (λ end. IfSome end (λ l. IsLearntNow old new l.updates))

-- ## Submissions

-- a set that an update gives: it is the last one and the view, and so many rounds are left
pub record LearnsUpdate (rounds : ℕ) (old new : InstanceState) (end : Learned × ℕ) : Type 0 where
  pub updated : IsUpdated old new end.0.updates
  pub view : new.view ≡ end.0.updates
  pub last : new.learnt ≡ Some end.0.updates
  pub left : end.1 < rounds

-- an update is submitted, and rounds run until a set with it is learnt
pub record UpdatesIn (rounds : ℕ) (update : ObjectOp) (result : Result (Learned × ℕ) RunnerError)
    (old new : InstanceState) : Type 0 where
  pub steps : InstanceSteps old new
  pub submitted : OnOk result (all_submitted new.proposer ≡ all_submitted old.proposer ++ update ∷ [])
  pub learns : IfOk result (LearnsUpdate rounds old new)
  pub error : IfErr result (IsUpdateRefusal rounds update old new)

-- a vote is cast, unless it is, and rounds run until a set with it is learnt, unless one is; and how many are left
pub record VotesIn (rounds commit : ℕ) (v : Vote) (result : Result ℕ RunnerError) (old new : InstanceState) :
    Type 0 where
  pub steps : InstanceSteps old new
  pub cast : IfOk result (λ left. HasCast commit v new)
  pub once : MayCast commit v new
  pub stays : IsSome old.learnt → new ≡ old
  pub left : IfOk result (λ left. left ≤ rounds)
  pub error : IfErr result (IsVoteRefusal rounds commit v old new)
  pub kind : IfErr result IsVoteError
