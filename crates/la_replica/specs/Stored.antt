-- A message as it is kept: of which kind it is, and what it says of a set, as a delta of that.
use Rattle.std.specs.Prelude.{◌≡◌}
use Rattle.la_set.specs.Histories.{empty}
use Rattle.la_set.specs.Counts.{zero_counts}
use Rattle.la_set.specs.Deltas.{DeltaState, delta_over}
use Rattle.la_replica.specs.declared.message.Message.{Message}
use Rattle.la_replica.specs.declared.message.Body.{Body}
use Rattle.la_replica.specs.declared.message.Body.TheVariants as body
use Rattle.la_replica.specs.declared.stored.Kind.{Kind}
use Rattle.la_replica.specs.declared.stored.Kind.TheVariants.{Offer, Yes, No, Tell}
use Rattle.la_replica.specs.declared.stored.StoredMessage.TheInside.{Inside}
use Rattle.la_replica.specs.Whole.{set_of}

-- a message's delta was made of a set
abbrev pub IsMadeBody : Body → Type 0
IsMadeBody (body.Offer d) = d ≡ delta_over (set_of d) d.base
IsMadeBody body.Yes = Unit {0}
IsMadeBody (body.No d) = d ≡ delta_over (set_of d) d.base
IsMadeBody (body.Tell told) = Unit {0}

abbrev pub IsMade : Message → Type 0
IsMade m = IsMadeBody m.body

abbrev pub kind_of : Body → Kind
kind_of (body.Offer d) = Offer
kind_of body.Yes = Yes
kind_of (body.No d) = No
kind_of (body.Tell told) = Tell

-- what a body says of a set: all of a told one, and of the empty one, where it says nothing of any
abbrev pub told_by : Body → DeltaState
told_by (body.Offer d) = d
told_by body.Yes = delta_over empty zero_counts
told_by (body.No d) = d
told_by (body.Tell told) = delta_over told zero_counts

-- the body of a kind that says this of a set
abbrev pub body_of : Kind → DeltaState → Body
body_of Offer told = body.Offer told
body_of Yes told = body.Yes
body_of No told = body.No told
body_of Tell told = body.Tell (set_of told)

abbrev pub message_of : Inside → Message
message_of m = record {
  instance = m.instance;
  from = m.from;
  to = m.to;
  ballot = m.ballot;
  body = body_of m.kind m.told;
}
