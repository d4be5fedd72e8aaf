-- What a member's calls leave of it, whatever they answer, and what they answer.
use Rattle.std.specs.Prelude.{◌≡◌, ℕ, ◌<◌, ◌≤◌, true, false, length, Option, None, IfSome, IsSome, Result, Ok, IfOk, IfErr}
use Rattle.la_commit.specs.declared.vote.Vote.{Vote}
use Rattle.la_runner.specs.declared.error.RunnerError.{RunnerError}
use Rattle.la_runner.specs.declared.learned.Learned.{Learned}
use Rattle.la_runner.specs.Members.{MemberState, GroupState, IsOfGroup, MemberGoesOn, IsOnlyIn, IsLearntIn, is_asking_in, member_view}
use Rattle.la_runner.specs.Participants.{HasVotedSet, IsOnlyAt, MayVote}
use Rattle.la_runner.specs.Refusals.{IsRefusedVote, IsVoteError}
use Rattle.la_runner.specs.Rounds.{IsLarger}

-- the member is still of the group and goes on, and in every instance but this one nothing changes
pub record GoesOnIn (group : GroupState) (instance : ℕ) (old new : MemberState) : Type 0 where
  pub of : IsOfGroup group new
  pub goes : MemberGoesOn old new
  pub only : IsOnlyIn instance old new

-- the same, where an adopt-commit object's two instances may change
pub record GoesOnAt (group : GroupState) (commit : ℕ) (old new : MemberState) : Type 0 where
  pub of : IsOfGroup group new
  pub goes : MemberGoesOn old new
  pub only : IsOnlyAt commit old new

-- a resumption gives a learning exactly where a ballot was open; the view is then the larger of the old one and the
-- learnt set
pub record IsResumption (result : Result (Option Learned) RunnerError) (old new : MemberState) : Type 0 where
  pub idle : is_asking_in old 0 ≡ false → result ≡ Ok None
  pub asking : is_asking_in old 0 ≡ true → IfOk result IsSome
  pub learnt : IfOk result (λ end. IfSome end (λ l. IsLearntIn 0 old new l.updates))
  pub view : IfOk result (λ end. IfSome end (λ l. IsLarger l.updates (member_view old) (member_view new)))

-- a member of the group may cast the vote in an instance of the object
pub record MayVoteIn (group : GroupState) (commit : ℕ) (v : Vote) (instance : ℕ) (m : MemberState) : Type 0 where
  pub of : IsOfGroup group m
  pub within : instance < length m.instances
  pub may : MayVote commit v instance m

-- it goes on there, and has learnt a set with its vote, and so many rounds are left; and how it is refused
pub record VotesAt (group : GroupState) (rounds commit : ℕ) (v : Vote) (instance : ℕ)
    (result : Result ℕ RunnerError) (old new : MemberState) : Type 0 where
  pub goes_on : GoesOnIn group instance old new
  pub voted : IfOk result (λ left. HasVotedSet new instance v)
  pub left : IfOk result (λ left. left ≤ rounds)
  pub error : IfErr result (IsRefusedVote rounds commit v instance old new)
  pub kind : IfErr result IsVoteError
