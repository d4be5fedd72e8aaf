-- A member as a participant of an adopt-commit object: by what it has submitted and learnt in the
-- object's two instances.
use Rattle.std.specs.Prelude.{◌≡◌, ◌≢◌, ◌⊎◌, ℕ, ◌<◌, [], ◌∷◌, length, slice_get, Option, Some, IsSome, option_and_then}
use Rattle.la_set.specs.Histories.{Histories}
use Rattle.la_commit.specs.declared.vote.Vote.{Vote}
use Rattle.la_commit.specs.declared.outcome.Outcome.{Outcome}
use Rattle.la_commit.specs.Instances.{first_instance, second_instance}
use Rattle.la_commit.specs.Outcomes.{outcome, outcome_of}
use Rattle.la_commit.specs.Votes.{HoldsVote, casts, first_vote, first_vote_for, second_vote, second_vote_for}
use Rattle.la_runner.specs.Members.{MemberState, member_submitted, member_learnt, IsOwnCertified}

-- its group has the object
abbrev pub HasCommit : MemberState → (commit : ℕ) → Type 0
HasCommit m k = second_instance k < length m.instances

-- it has voted for the value in the first instance: it has proposed it
abbrev pub HasProposed : MemberState → (commit value : ℕ) → Type 0
HasProposed m k value = member_submitted m (first_instance k) ≡ first_vote k value ∷ []

-- it has voted in the second instance, as a set leads to that it learnt in the first
pub record HasVoted (m : MemberState) (commit : ℕ) : Type 0 where
  pub first : Histories
  pub vote : Vote
  pub learnt : member_learnt m (first_instance commit) ≡ Some first
  pub leads : second_vote first m.replica ≡ Some vote
  pub cast : member_submitted m (second_instance commit) ≡ casts commit vote ∷ []

-- in the first instance it has submitted nothing, or the vote of a proposal; in the second nothing,
-- or the vote to which the first leads
pub record IsMemberParticipant (m : MemberState) (commit : ℕ) : Type 0 where
  pub first : (member_submitted m (first_instance commit) ≡ []) ⊎ ((value : ℕ) × HasProposed m commit value)
  pub second : (member_submitted m (second_instance commit) ≡ []) ⊎ HasVoted m commit

-- what it has come to, once it has learnt a set in the second instance
abbrev pub member_outcome : MemberState → (commit : ℕ) → Option Outcome
member_outcome m k = option_and_then (λ s. outcome_of s m.replica) (member_learnt m (second_instance k))

-- it has finished there, or has another value under way
abbrev pub HasOther : MemberState → (commit value : ℕ) → Type 0
HasOther m k value =
    IsSome (member_learnt m (second_instance k)) ⊎ ((other : ℕ) × HasProposed m k other × (other ≢ value))

-- the last set that it learnt in an instance: certified by own offers, with the member's own vote
pub record IsVotedSet (m : MemberState) (instance : ℕ) (v : Vote) (s : Histories) : Type 0 where
  pub learnt : member_learnt m instance ≡ Some s
  pub own : IsOwnCertified m instance s
  pub holds : HoldsVote s m.replica v

abbrev pub HasVotedSet : MemberState → (instance : ℕ) → Vote → Type 0
HasVotedSet m i v = (s : Histories) × IsVotedSet m i v s

-- a decision: by a set of each instance, with the member's vote for its value in the first, and the
-- vote to which that leads in the second
pub record IsDecision (commit value : ℕ) (m : MemberState) (reached : Outcome) : Type 0 where
  pub first : Histories
  pub second : Histories
  pub is_first : IsVotedSet m (first_instance commit) (first_vote_for value) first
  pub is_second : IsVotedSet m (second_instance commit) (second_vote_for first value) second
  pub outcome_is : reached ≡ outcome second value

-- in every instance but the two of the object nothing changes
abbrev pub IsOnlyAt : (commit : ℕ) → MemberState → MemberState → Type 0
IsOnlyAt k old new =
    (j : ℕ) → j ≢ first_instance k → j ≢ second_instance k
    → slice_get new.instances j ≡ slice_get old.instances j

-- a vote that a member may cast in an instance of the object: in the first any that is not sole, in
-- the second the one to which the first leads; and it is the one that was cast there, if any was
pub record MayVote (commit : ℕ) (v : Vote) (instance : ℕ) (m : MemberState) : Type 0 where
  pub once : (member_submitted m instance ≡ []) ⊎ (member_submitted m instance ≡ casts commit v ∷ [])
  pub leads :
      ((instance ≡ first_instance commit) × (v ≡ first_vote_for v.value))
      ⊎ ((instance ≡ second_instance commit)
      × (first : Histories) × (member_learnt m (first_instance commit) ≡ Some first)
      × (second_vote first m.replica ≡ Some v))
