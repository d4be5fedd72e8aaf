-- When each call is refused, and how.
use Rattle.std.specs.Prelude.{◌≡◌, ◌⊎◌, ℕ, ◌≤◌, ◌<◌, true, List, ◌++◌, ◌∷◌, [], length}
use Rattle.la_acceptor.specs.declared.error.AcceptorError.{AcceptorError}
use Rattle.la_acceptor.specs.declared.error.AcceptorError.TheVariants as offer
use Rattle.la_proposer.specs.declared.error.ProposerError.{ProposerError}
use Rattle.la_proposer.specs.declared.error.ProposerError.TheVariants as proposer
use Rattle.la_proposer.specs.ProposerState.{ProposerState}
use Rattle.la_proposer.specs.Inputs.{all_submitted}
use Rattle.la_proposer.specs.Refusals.{IsSubmitRefusal}
use Rattle.la_set.specs.ObjectOps.{ObjectOp}
use Rattle.la_set.specs.Histories.{Histories}
use Rattle.la_commit.specs.declared.vote.Vote.{Vote}
use Rattle.la_commit.specs.Instances.{first_instance, second_instance}
use Rattle.la_commit.specs.Votes.{casts, first_vote_for, second_vote_for}
use Rattle.la_runner.specs.declared.error.RunnerError.{RunnerError}
use Rattle.la_runner.specs.declared.error.RunnerError.TheVariants.{BadConfig, NoSuchCommit, AlreadyProposed, Clash, Full, BallotsSpent, NoMajority, TryAgain, Memory}
use Rattle.la_runner.specs.Heard.{Answered, Hears, StillCounts}
use Rattle.la_runner.specs.Instances.{InstanceState, with_update, vote_submitted}
use Rattle.la_runner.specs.Members.{MemberState, InMemberInstance, member_submitted, is_asking_in, ballot_number_in}
use Rattle.la_runner.specs.Participants.{HasCommit, HasOther, IsVotedSet}

-- ## The refusals of lower crates, as members name them

abbrev pub of_offer : AcceptorError → RunnerError
of_offer (offer.Clash id) = Clash id
of_offer offer.Memory = Memory

abbrev pub of_member_proposer : ProposerError → RunnerError
of_member_proposer proposer.Full = Full
of_member_proposer proposer.NoSuchReplica = BadConfig
of_member_proposer (proposer.Clash id) = Clash id
of_member_proposer proposer.BallotsSpent = BallotsSpent
of_member_proposer proposer.Memory = Memory

-- ## Refusals of steps

-- of an offer and its reply
abbrev pub IsRoundOfferRefusal : RunnerError → Type 0
IsRoundOfferRefusal (Clash id) = Unit {0}
IsRoundOfferRefusal BallotsSpent = Unit {0}
IsRoundOfferRefusal Memory = Unit {0}
IsRoundOfferRefusal BadConfig = ⊥
IsRoundOfferRefusal NoSuchCommit = ⊥
IsRoundOfferRefusal AlreadyProposed = ⊥
IsRoundOfferRefusal Full = ⊥
IsRoundOfferRefusal NoMajority = ⊥
IsRoundOfferRefusal TryAgain = ⊥

-- of at most so many rounds: none of them is left. These are the numbers of the ballot that was open
-- before them, and of the one that is open now: without rounds, or where the last one ended its
-- ballot, the call may be made again
abbrev pub IsRoundsRefusal : (rounds first last : ℕ) → RunnerError → Type 0
IsRoundsRefusal rounds first last (Clash id) = 1 ≤ rounds
IsRoundsRefusal rounds first last BallotsSpent = 1 ≤ rounds
IsRoundsRefusal rounds first last Memory = 1 ≤ rounds
IsRoundsRefusal rounds first last NoMajority = 1 ≤ rounds
IsRoundsRefusal rounds first last TryAgain = (rounds ≡ 0) ⊎ (first < last)
IsRoundsRefusal rounds first last BadConfig = ⊥
IsRoundsRefusal rounds first last NoSuchCommit = ⊥
IsRoundsRefusal rounds first last AlreadyProposed = ⊥
IsRoundsRefusal rounds first last Full = ⊥

-- which replies to recorded offers a refusal leaves unheard: none, where the rounds are used up
abbrev pub MayMiss : RunnerError → List Answered → Type 0
MayMiss NoMajority missed = missed ≡ []
MayMiss TryAgain missed = missed ≡ []
MayMiss (Clash id) missed = length missed ≤ 1
MayMiss BallotsSpent missed = length missed ≤ 1
MayMiss Memory missed = length missed ≤ 1
MayMiss BadConfig missed = ⊥
MayMiss NoSuchCommit missed = ⊥
MayMiss AlreadyProposed missed = ⊥
MayMiss Full missed = ⊥

-- what had counted still counts, and what the rounds got was heard
pub record KeepsCounted (start new : InstanceState) (e : RunnerError) : Type 0 where
  pub missed : List Answered
  pub few : MayMiss e missed
  pub hears : Hears start.proposer new.proposer start.passes new.passes missed
  pub counts : StillCounts start.proposer new.proposer

-- rounds in an instance that begin so are refused, and a ballot stays open
pub record IsInstanceRefusal (rounds : ℕ) (start new : InstanceState) (e : RunnerError) : Type 0 where
  pub refusal : IsRoundsRefusal rounds start.proposer.number new.proposer.number e
  pub asks : new.proposer.is_asking ≡ true
  pub kept : KeepsCounted start new e

-- of a submission: the proposer's
abbrev pub IsMemberSubmissionRefusal : ProposerState → RunnerError → Type 0
IsMemberSubmissionRefusal p e = (refused : ProposerError) × (e ≡ of_member_proposer refused) × IsSubmitRefusal p refused

-- of a submission, and then nothing was submitted; or of the rounds after it, and then it was
abbrev pub IsUpdateRefusal : (rounds : ℕ) → ObjectOp → InstanceState → InstanceState → RunnerError → Type 0
IsUpdateRefusal rounds update old new e =
    (IsMemberSubmissionRefusal old.proposer e × (new ≡ old))
    ⊎ ((all_submitted new.proposer ≡ all_submitted old.proposer ++ update ∷ [])
    × IsInstanceRefusal rounds (with_update update old) new e)

-- of a vote: its submission was refused, and nothing is submitted; or it is cast, and the rounds
-- after it were refused
abbrev pub IsVoteRefusal : (rounds commit : ℕ) → Vote → InstanceState → InstanceState → RunnerError → Type 0
IsVoteRefusal rounds k v old new e =
    ((all_submitted new.proposer ≡ []) × IsMemberSubmissionRefusal new.proposer e)
    ⊎ ((all_submitted new.proposer ≡ casts k v ∷ []) × IsInstanceRefusal rounds (vote_submitted k v old) new e)

-- the errors that a vote may be refused with
abbrev pub IsVoteError : RunnerError → Type 0
IsVoteError (Clash id) = Unit {0}
IsVoteError BallotsSpent = Unit {0}
IsVoteError Memory = Unit {0}
IsVoteError NoMajority = Unit {0}
IsVoteError TryAgain = Unit {0}
IsVoteError BadConfig = ⊥
IsVoteError NoSuchCommit = ⊥
IsVoteError AlreadyProposed = ⊥
IsVoteError Full = ⊥

-- ## Refusals of a member's calls

-- of rounds in an instance that begin so: a ballot stays open there
pub record IsRefusedRounds (rounds : ℕ) (start : InstanceState) (instance : ℕ) (new : MemberState) (e : RunnerError) :
    Type 0 where
  pub refusal : IsRoundsRefusal rounds start.proposer.number (ballot_number_in new instance) e
  pub asks : is_asking_in new instance ≡ true
  pub kept : InMemberInstance new instance (λ y. KeepsCounted start y e)

-- of a resumption
abbrev pub IsRefusedResume : (rounds : ℕ) → MemberState → MemberState → RunnerError → Type 0
IsRefusedResume rounds old new e = InMemberInstance old 0 (λ x. IsRefusedRounds rounds x 0 new e)

-- of an update: of its submission, and then nothing was submitted; or of the rounds after it
abbrev pub IsRefusedUpdate : (rounds : ℕ) → ObjectOp → MemberState → MemberState → RunnerError → Type 0
IsRefusedUpdate rounds update old new e =
    (InMemberInstance old 0 (λ x. IsMemberSubmissionRefusal x.proposer e) × (new ≡ old))
    ⊎ ((member_submitted new 0 ≡ member_submitted old 0 ++ update ∷ [])
    × InMemberInstance old 0 (λ x. IsRefusedRounds rounds (with_update update x) 0 new e))

-- of a vote in an instance: its submission was refused, and nothing is submitted there; or it is
-- cast, and the rounds were
abbrev pub IsRefusedVote : (rounds commit : ℕ) → Vote → (instance : ℕ) → MemberState → MemberState → RunnerError
    → Type 0
IsRefusedVote rounds k v i old new e =
    ((member_submitted new i ≡ []) × InMemberInstance new i (λ x. IsMemberSubmissionRefusal x.proposer e))
    ⊎ ((member_submitted new i ≡ casts k v ∷ [])
    × InMemberInstance old i (λ x. IsRefusedRounds rounds (vote_submitted k v x) i new e))

-- the first vote was refused, or the second one, with the rounds that the first left
abbrev pub IsRefusedInEither : (rounds commit value : ℕ) → MemberState → MemberState → RunnerError → Type 0
IsRefusedInEither rounds k value old new e =
    IsRefusedVote rounds k (first_vote_for value) (first_instance k) old new e
    ⊎ ((first : Histories) × (left : ℕ)
    × (left ≤ rounds) × IsVotedSet new (first_instance k) (first_vote_for value) first
    × IsRefusedVote left k (second_vote_for first value) (second_instance k) old new e)

-- a proposal that may be made, and whose votes were refused
pub record IsRefusedProposal (rounds commit value : ℕ) (old new : MemberState) (e : RunnerError) : Type 0 where
  pub there : HasCommit old commit
  pub may : ¬ HasOther old commit value
  pub votes : IsRefusedInEither rounds commit value old new e

-- of a proposal that may not be made
abbrev pub IsProposalRefusal : (commit value : ℕ) → MemberState → RunnerError → Type 0
IsProposalRefusal k value m NoSuchCommit = ¬ HasCommit m k
IsProposalRefusal k value m AlreadyProposed = HasCommit m k × HasOther m k value
IsProposalRefusal k value m (Clash id) = ⊥
IsProposalRefusal k value m BallotsSpent = ⊥
IsProposalRefusal k value m Memory = ⊥
IsProposalRefusal k value m NoMajority = ⊥
IsProposalRefusal k value m TryAgain = ⊥
IsProposalRefusal k value m BadConfig = ⊥
IsProposalRefusal k value m Full = ⊥

abbrev pub IsRefusedDecision : (rounds commit value : ℕ) → MemberState → MemberState → RunnerError → Type 0
IsRefusedDecision rounds k value old new NoSuchCommit = ¬ HasCommit old k × (new ≡ old)
IsRefusedDecision rounds k value old new AlreadyProposed = HasCommit old k × HasOther old k value × (new ≡ old)
IsRefusedDecision rounds k value old new (Clash id) = IsRefusedProposal rounds k value old new (Clash id)
IsRefusedDecision rounds k value old new BallotsSpent = IsRefusedProposal rounds k value old new BallotsSpent
IsRefusedDecision rounds k value old new Memory = IsRefusedProposal rounds k value old new Memory
IsRefusedDecision rounds k value old new NoMajority = IsRefusedProposal rounds k value old new NoMajority
IsRefusedDecision rounds k value old new TryAgain = IsRefusedProposal rounds k value old new TryAgain
IsRefusedDecision rounds k value old new BadConfig = ⊥
IsRefusedDecision rounds k value old new Full = ⊥
