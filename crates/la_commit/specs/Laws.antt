-- What holds of the votes and outcomes of an adopt-commit object where any two sets that are learnt
-- in one agreement are comparable. src/laws.rt has a law for each of these statements.
use Rattle.std.specs.Prelude.{◌≡◌, ℕ, ◌⊎◌, ◌<◌, true, length, All, Any, Contains, IsTrue}
use Rattle.la_set.specs.Histories.{Histories}
use Rattle.la_set.specs.Inclusion.{IsSubset, AreComparable}
use Rattle.la_commit.specs.declared.vote.Vote.{Vote}
use Rattle.la_commit.specs.declared.outcome.Outcome.TheVariants.{Commit}
use Rattle.la_commit.specs.Votes.{votes, sole_votes, is_sole, HoldsVote}
use Rattle.la_commit.specs.Outcomes.{outcome, value_of}

-- a vote of the set has this value
abbrev pub HasVoteFor : Histories → (value : ℕ) → Type 0
HasVoteFor s value = Any (λ v. v.value ≡ value) (votes s)

-- a participant's own vote in a set is a vote of the set
abbrev pub OwnVotesAreVotes : Type 0
OwnVotesAreVotes = (s : Histories) (participant : ℕ) (v : Vote) →
    HoldsVote s participant v → Contains (votes s) v

-- each vote of a set is one of each larger set
abbrev pub VotesStay : Type 0
VotesStay = (a b : Histories) (v : Vote) →
    IsSubset a b → Contains (votes a) v → Contains (votes b) v

-- two sets of the first agreement, in each of which all votes have one value, have one value
abbrev pub SoleValuesAgree : Type 0
SoleValuesAgree = (a b : Histories) (v w : ℕ) → AreComparable a b →
    HasVoteFor a v → HasVoteFor b w → IsTrue (is_sole a v) → IsTrue (is_sole b w) → v ≡ w

-- where one outcome commits a value each outcome has it: of two sets of the second agreement whose
-- sole votes are all for one value
abbrev pub OutcomesAgree : Type 0
OutcomesAgree = (a b : Histories) (own other v w : ℕ) → AreComparable a b →
    All (λ x. x.value ≡ w) (sole_votes a) → All (λ x. x.value ≡ w) (sole_votes b) →
    0 < length (votes b) → outcome a own ≡ Commit v → value_of (outcome b other) ≡ v

-- where all votes are sole, and for one value, the outcome commits it
abbrev pub UnanimousCommit : Type 0
UnanimousCommit = (s : Histories) (own v : ℕ) → 0 < length (votes s) →
    All (λ x. x ≡ record { value = v; sole = true }) (votes s) → outcome s own ≡ Commit v

-- an outcome's value is the participant's own, or that of a sole vote
abbrev pub OutcomesAreVoted : Type 0
OutcomesAreVoted = (s : Histories) (own : ℕ) →
    (value_of (outcome s own) ≡ own) ⊎ Any (λ x. x.value ≡ value_of (outcome s own)) (sole_votes s)
