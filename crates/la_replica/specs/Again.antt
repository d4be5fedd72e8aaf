-- What a timer should send once more where answers stay away.
use Rattle.std.specs.Prelude.{ℕ, not, List, [], ◌++◌, length, filter, flat_map, slice_get, Option, Some, None, option_map, unwrap_or, Bool, if◌then◌else◌}
use Rattle.std.specs.List.{range_with_len}
use Rattle.la_proposer.specs.declared.ballot.Ballot.{Ballot}
use Rattle.la_proposer.specs.Tally.{has_counted}
use Rattle.la_proposer.specs.ProposerState.{ProposerState}
use Rattle.la_replica.specs.declared.instance.Instance.{Instance}
use Rattle.la_replica.specs.declared.sender.Sender.{Sender}
use Rattle.la_replica.specs.Whole.{Message}
use Rattle.la_replica.specs.Messages.{offers_of, tells_of}
use Rattle.la_replica.specs.ReplicaState.{ReplicaState, sender_of}

-- an offer to an acceptor of which no reply has counted in the open ballot
abbrev pub is_unanswered : ProposerState → Message → Bool
is_unanswered p offer = not (has_counted p.tally offer.to)

abbrev pub last_ballot : ProposerState → Ballot
last_ballot p = record { number = p.number; updates = p.updates }

-- the open ballot's offers to those; nothing, where none is open
abbrev pub offers_again : Sender → ProposerState → List Message
offers_again s p =
    if p.is_asking then filter (is_unanswered p) (offers_of s (last_ballot p)) else []

-- the tells of the ballot that was learnt last
abbrev pub tells_again : Sender → Option Ballot → List Message
tells_again s None = []
tells_again s (Some b) = tells_of s b.number b.updates

abbrev pub again_in : Sender → Instance → List Message
again_in s x = offers_again s x.proposer ++ tells_again s x.learnt

-- the same of an instance by its number; nothing, where there is none
abbrev pub again_at : ReplicaState → (instance : ℕ) → List Message
again_at r i = unwrap_or (option_map (again_in (sender_of r i)) (slice_get r.instances i)) []

-- and of all instances, from 0 on
abbrev pub again : ReplicaState → List Message
again r = flat_map (again_at r) (range_with_len 0 (length r.instances))
