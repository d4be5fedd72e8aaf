-- How a message is told: its set over what the sender knows of the receiver, as the mail of `la_replica`'s
-- steps is.
use Rattle.std.specs.Prelude.{◌≡◌, ℕ, List, map, slice_get, Option, Some, None}
use Rattle.la_set.specs.declared.counts.Counts.{Counts}
use Rattle.la_set.specs.Counts.{counts_of, zero_counts}
use Rattle.la_set.specs.Deltas.{delta_over}
use Rattle.la_proposer.specs.ProposerState.{reported}
use Rattle.la_replica.specs.declared.instance.Instance.{Instance}
use Rattle.la_replica.specs.declared.message.Message as code
use Rattle.la_replica.specs.declared.message.Body as code_body
use Rattle.la_replica.specs.declared.message.Body.TheVariants as body
use Rattle.la_replica.specs.Whole.{Message, Body, Offer, Yes, No, Tell, whole_mail}
use Rattle.la_replica.specs.Bases.{smaller}
use Rattle.la_replica.specs.ReplicaState.{ReplicaState}

-- a message, with its set told over this base
abbrev pub told_body : (base : Counts) → Body → code_body.Body
told_body base (Offer s) = body.Offer (delta_over s base)
told_body base Yes = body.Yes
told_body base (No s) = body.No (delta_over s base)
told_body base (Tell s) = body.Tell s

abbrev pub told_over : (base : Counts) → Message → code.Message
told_over base m = record {
  instance = m.instance;
  from = m.from;
  to = m.to;
  ballot = m.ballot;
  body = told_body base m.body;
}

-- an offer is told over the smaller, of each replica, of what its receiver has reported and what the
-- set has; a refusal over what was offered
abbrev pub base_told : (reported_set offered : Counts) → Body → Counts
base_told reported_set offered (Offer s) = smaller reported_set (counts_of s)
base_told reported_set offered Yes = zero_counts
base_told reported_set offered (No s) = offered
base_told reported_set offered (Tell s) = zero_counts

-- ## By a replica

-- what an acceptor last reported in an instance; nothing, where there is no such instance
abbrev pub reported_in : Option Instance → (acceptor : ℕ) → Counts
reported_in None to = zero_counts
reported_in (Some x) to = reported x.proposer to

-- a message of a replica that keeps this, told over what its receiver is known to have
abbrev pub message_told : ReplicaState → (offered : Counts) → Message → code.Message
message_told r offered m =
    told_over (base_told (reported_in (slice_get r.instances m.instance) m.to) offered m.body) m

-- so mail is told
abbrev pub IsToldAs : ReplicaState → (offered : Counts) → List code.Message → Type 0
IsToldAs r offered mail = mail ≡ map (message_told r offered) (whole_mail mail)
