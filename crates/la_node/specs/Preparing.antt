-- What is prepared for a message, and for the second vote to which it may lead, and what both come to.
use Rattle.std.specs.Prelude.{◌≡◌, ℕ, ◌+◌, ◌*◌, ◌≤◌, List, ◌++◌, Some}
use Rattle.la_set.specs.declared.counts.Counts.{Counts}
use Rattle.la_commit.specs.declared.instance.TheConstants.{MAX_COMMITS}
use Rattle.la_commit.specs.declared.vote.Vote.{Vote}
use Rattle.la_commit.specs.Instances.{commit_of}
use Rattle.la_commit.specs.Votes.{casts}
use Rattle.la_replica.specs.declared.change.Change.{Change}
use Rattle.la_replica.specs.declared.message.Message as code
use Rattle.la_replica.specs.declared.out.Out as code_out
use Rattle.la_replica.specs.Whole.{Message, Out, whole_mail, whole_out}
use Rattle.la_replica.specs.Bases.{offered_by, AreToldIn, AreToldAfter, AreToldThere}
use Rattle.la_replica.specs.Changes.{after_commit, LeadsThere}
use Rattle.la_replica.specs.Prepared.{PreparesReceiptIn}
use Rattle.la_replica.specs.Fitting.{FitsReceiver}
use Rattle.la_replica.specs.Received.{received_in, StandsIn, AgreesIn}
use Rattle.la_replica.specs.Refusals.{HasRoom, SubmittingSpares}
use Rattle.la_replica.specs.ReplicaState.{ReplicaState, submits}
use Rattle.la_node.specs.declared.done.Done.{Done}
use Rattle.la_node.specs.declared.done.Voted.{Voted}
use Rattle.la_node.specs.Taking.{VoteFits, takes, with_vote, whole_done}

-- a message that fits what its receiver knows, and stands there for what was sent
pub record FitsHere (r : ReplicaState) (m : code.Message) : Type 0 where
  pub fits : FitsReceiver r (received_in r m)
  pub stands : StandsIn r m
  pub agrees : AgreesIn r m

-- what is prepared leads where the receipt does, and a vote that it leads to may be submitted
pub record IsPreparedReceipt (r : ReplicaState) (m : code.Message) (out : code_out.Out) (c : Change) : Type 0 where
  pub prepared : PreparesReceiptIn r (received_in r m) (out, c)
  pub few : m.instance ≤ 2 * MAX_COMMITS
  pub vote : VoteFits r (received_in r m)

-- what a receipt comes to, and how its mail is told
pub record TakesAs (r : ReplicaState) (m : code.Message) (done : Done) (after : ReplicaState) : Type 0 where
  pub step : takes r (received_in r m) ≡ Some (whole_done done, after)
  pub told : AreToldIn after (offered_by (received_in r m)) done.mail

-- a vote may follow a change in instance i
pub record VoteMayFollow (r : ReplicaState) (i : ℕ) : Type 0 where
  pub few : i ≤ 2 * MAX_COMMITS
  pub room : HasRoom r (i + 1)
  pub spares : SubmittingSpares r (i + 1)

-- a vote that is prepared beside it, whose mail comes last
pub record PreparesVote (r : ReplicaState) (i : ℕ) (vote : Vote) (before : List code.Message) (voted : Voted)
    (mail : List code.Message) (c : Change) : Type 0 where
  pub sent : List Message
  pub last : whole_mail mail ≡ whole_mail before ++ sent
  pub leads : LeadsThere r (i + 1) (casts (commit_of i) vote) (record { said = voted.said; mail = sent }) c
  pub added : List code.Message
  pub adds : mail ≡ before ++ added
  pub told : AreToldThere r (i + 1) c added
  pub voted_in : voted.instance ≡ i + 1
  pub changes : c.instance ≡ i + 1

-- a change and then the vote, both done
pub record CommitsBoth (r : ReplicaState) (i : ℕ) (vote : Vote) (out : code_out.Out) (c : Change) (done : Done)
    (after : ReplicaState) : Type 0 where
  pub then : ReplicaState
  pub cast : Out
  pub first : after_commit r c ≡ Some then
  pub second : submits then (i + 1) (casts (commit_of i) vote) ≡ Some (cast, after)
  pub is : whole_done done ≡ with_vote (whole_out out) (i + 1) cast
  pub told : (offered : Counts) → AreToldAfter r c offered out.mail → AreToldIn after offered done.mail
  pub said : done.said ≡ out.said
