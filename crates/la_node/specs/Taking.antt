-- What a replica makes of a message as a participant of adopt-commit objects: its step, and the vote
-- that is due by it.
use Rattle.std.specs.Prelude.{◌≡◌, ℕ, List, ◌++◌, Option, Some, None, option_map, option_and_then}
use Rattle.la_replica.specs.Whole.{Message, Out, whole_mail}
use Rattle.la_replica.specs.declared.out.Said.{Said}
use Rattle.la_replica.specs.Steps.{learnt_in}
use Rattle.la_replica.specs.ReplicaState as acting
use Rattle.la_replica.specs.ReplicaState.{ReplicaState}
use Rattle.la_replica.specs.Refusals.{HasRoom, SubmittingSpares}
use Rattle.la_node.specs.declared.done.Done.{Done}
use Rattle.la_node.specs.declared.done.Voted.{Voted}
use Rattle.la_node.specs.SecondVotes.{Submission, second_vote_in}

-- what a replica did with a message, and with the vote that it cast by that; and all that it sends,
-- in order
pub record Taken : Type 0 where
  pub said : Said
  pub voted : Option Voted
  pub mail : List Message

abbrev pub without_vote : Out → Taken
without_vote out = record { said = out.said; voted = None; mail = out.mail }

abbrev pub with_vote : Out → (instance : ℕ) → (cast : Out) → Taken
with_vote out i cast = record {
  said = out.said;
  voted = Some (record { instance = i; said = cast.said });
  mail = out.mail ++ cast.mail;
}

-- what the code did, with whole messages
abbrev pub whole_done : Done → Taken
whole_done done = record {
  said = done.said;
  voted = done.voted;
  mail = whole_mail done.mail;
}

-- the second vote that is due once a replica has said this of a message of instance i
abbrev pub vote_due : (i r : ℕ) → Said → Option Submission
vote_due i r said = option_and_then (second_vote_in i r) (learnt_in said)

-- a step with the vote that is due
abbrev pub then_votes : Out × ReplicaState → Option Submission → Option (Taken × ReplicaState)
then_votes made None = Some (without_vote made.0, made.1)
then_votes made (Some vote) =
    option_map
    (λ (cast : Out × ReplicaState). (with_vote made.0 vote.instance cast.0, cast.1))
    (acting.submits made.1 vote.instance vote.object_op)

-- what a replica makes of a message: it receives it, and where it learns a set by that in a first
-- instance it submits its second vote in the same step
abbrev pub takes : ReplicaState → Message → Option (Taken × ReplicaState)
takes state m =
    option_and_then
    (λ (made : Out × ReplicaState).
    then_votes made (vote_due m.instance state.own made.0.said))
    (acting.receives state m)

-- it may submit the vote that is due
abbrev pub VoteFits : ReplicaState → Message → Type 0
VoteFits state m =
    (made : Out × ReplicaState) (vote : Submission) → acting.receives state m ≡ Some made →
    vote_due m.instance state.own made.0.said ≡ Some vote →
    HasRoom state vote.instance × SubmittingSpares state vote.instance
