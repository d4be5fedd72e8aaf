-- A message as its receiver can tell it: its set is rebuilt over what is known there.
use Rattle.std.specs.Prelude.{◌≡◌, ℕ, Bool, true, false, slice_get, Option, Some, None, option_map, unwrap_or, IfSome, IsSomeAnd}
use Rattle.la_set.specs.Histories.{Histories}
use Rattle.la_set.specs.declared.error.SetError.{SetError}
use Rattle.la_set.specs.declared.counts.Counts.{Counts}
use Rattle.la_set.specs.Counts.{zero_counts, within}
use Rattle.la_set.specs.Deltas.{DeltaState, rebuilt, IsOver, AgreesWithin, IsRebuildRefusal}
use Rattle.la_proposer.specs.ProposerState.{counts}
use Rattle.la_replica.specs.declared.message.Message as code
use Rattle.la_replica.specs.declared.message.Body as code_body
use Rattle.la_replica.specs.declared.message.Body.TheVariants as body
use Rattle.la_replica.specs.declared.instance.Instance.{Instance}
use Rattle.la_replica.specs.declared.whole.Told as lent
use Rattle.la_replica.specs.Whole.{Message, Body, Offer, Yes, No, Tell, set_of}
use Rattle.la_replica.specs.ReplicaState.{ReplicaState, InInstance}

-- a delta that is looked at, and the set over which it is: that of an offer over what is accepted, and
-- that of a refusal which counts over the open ballot's set. Of a refusal that does not count nothing
-- is looked at
pub record Told : Type 0 where
  pub over : Histories
  pub delta : DeltaState

abbrev pub refusal_over : Bool → Histories → DeltaState → Option Told
refusal_over true s d = Some (record { over = s; delta = d })
refusal_over false s d = None

abbrev pub told_in_body : Instance → (from ballot : ℕ) → code_body.Body → Option Told
told_in_body x from ballot (body.Offer d) = Some (record { over = x.acceptor; delta = d })
told_in_body x from ballot (body.No d) =
    refusal_over (counts x.proposer from ballot) x.proposer.updates d
told_in_body x from ballot body.Yes = None
told_in_body x from ballot (body.Tell told) = None

abbrev pub told_at : Instance → code.Message → Option Told
told_at x m = told_in_body x m.from m.ballot m.body

-- the same of a delta and a set that are borrowed
abbrev pub lent_told : Option lent.Told → Option Told
lent_told None = None
lent_told (Some t) = Some (record { over = t.over.now; delta = t.delta.now })

-- what it stands for
abbrev pub rebuilt_of : Told → Histories
rebuilt_of t = rebuilt t.over t.delta

abbrev pub rebuilt_at : Instance → code.Message → Option Histories
rebuilt_at x m = option_map rebuilt_of (told_at x m)

-- it stands for something, and what it was made of has within its base what is known here
abbrev pub StandsAt : Instance → code.Message → Type 0
StandsAt x m = IfSome (told_at x m) (λ t. IsOver t.over t.delta)

abbrev pub AgreesAt : Instance → code.Message → Type 0
AgreesAt x m = IfSome (told_at x m) (λ t. AgreesWithin t.over t.delta)

-- it is not rebuilt
abbrev pub IsUnbuilt : Instance → code.Message → SetError → Type 0
IsUnbuilt x m e = IsSomeAnd (told_at x m) (λ t. IsRebuildRefusal t.over t.delta e)

-- ## The message

-- an offer and a refusal with this set; without one an acknowledgement stands for either, since
-- nothing of it is looked at
abbrev pub with_offered : Option Histories → Body
with_offered (Some s) = Offer s
with_offered None = Yes

abbrev pub with_refused : Option Histories → Body
with_refused (Some s) = No s
with_refused None = Yes

abbrev pub with_set : Option Histories → code_body.Body → Body
with_set set (body.Offer d) = with_offered set
with_set set body.Yes = Yes
with_set set (body.No d) = with_refused set
with_set set (body.Tell told) = Tell told

abbrev pub message_with : Option Histories → code.Message → Message
message_with set m = record {
  instance = m.instance;
  from = m.from;
  to = m.to;
  ballot = m.ballot;
  body = with_set set m.body;
}

abbrev pub received_at : Instance → code.Message → Message
received_at x m = message_with (rebuilt_at x m) m

-- ## In a replica

-- the same in the message's instance of a replica; where there is none nothing is known
abbrev pub rebuilt_in : ReplicaState → code.Message → Option Histories
rebuilt_in r m = unwrap_or (option_map (λ x. rebuilt_at x m) (slice_get r.instances m.instance)) None

abbrev pub received_in : ReplicaState → code.Message → Message
received_in r m = message_with (rebuilt_in r m) m

abbrev pub StandsIn : ReplicaState → code.Message → Type 0
StandsIn r m = InInstance r m.instance (λ x. StandsAt x m)

abbrev pub AgreesIn : ReplicaState → code.Message → Type 0
AgreesIn r m = InInstance r m.instance (λ x. AgreesAt x m)

-- ## What is known of it

-- the base of a message's delta; of one that has none nothing is known
abbrev pub base_in : code_body.Body → Counts
base_in (body.Offer d) = d.base
base_in body.Yes = zero_counts
base_in (body.No d) = d.base
base_in (body.Tell told) = zero_counts

-- within these counts an offer has what is accepted, and a refusal what the ballot's set has
abbrev pub IsKnownWithin : Instance → Counts → Body → Type 0
IsKnownWithin x b (Offer s) = within x.acceptor b ≡ within s b
IsKnownWithin x b Yes = Unit {0}
IsKnownWithin x b (No s) = within x.proposer.updates b ≡ within s b
IsKnownWithin x b (Tell s) = Unit {0}

-- the same in an instance of a replica
abbrev pub IsKnownIn : ReplicaState → (instance : ℕ) → Counts → Body → Type 0
IsKnownIn r i b body = InInstance r i (λ x. IsKnownWithin x b body)

-- within these counts a told set has what the view has
abbrev pub IsToldWithin : (view : Histories) → Counts → Body → Type 0
IsToldWithin view b (Offer s) = Unit {0}
IsToldWithin view b Yes = Unit {0}
IsToldWithin view b (No s) = Unit {0}
IsToldWithin view b (Tell s) = within view b ≡ within s b

-- the same of a body as it comes
abbrev pub IsTellWithin : (view : Histories) → Counts → code_body.Body → Type 0
IsTellWithin view b (body.Offer d) = Unit {0}
IsTellWithin view b body.Yes = Unit {0}
IsTellWithin view b (body.No d) = Unit {0}
IsTellWithin view b (body.Tell told) = within view b ≡ within told b

-- and of a message of instance 0, which the view is of
abbrev pub IsSeenWithin : ReplicaState → Counts → code.Message → Type 0
IsSeenWithin r b m = m.instance ≡ 0 → IsTellWithin r.view b m.body

-- ## What it is where it came from

-- what its delta stands for here is the set that it was made of
abbrev pub IsCarried : Instance → code.Message → Type 0
IsCarried x m = IfSome (told_at x m) (λ t. rebuilt_of t ≡ set_of t.delta)

abbrev pub IsCarriedIn : ReplicaState → code.Message → Type 0
IsCarriedIn r m = InInstance r m.instance (λ x. IsCarried x m)

-- ## What needs no memory to be rebuilt

-- a delta that was made of a set lends it: else the set that it stands for is made
abbrev pub made_where : (made_of : Option Histories) → Histories → Option Histories
made_where None s = Some s
made_where (Some whole) s = None

abbrev pub made_of_told : Option Told → Option Histories
made_of_told None = None
made_of_told (Some t) = made_where t.delta.made_of (rebuilt_of t)

abbrev pub made_at : Instance → code.Message → Option Histories
made_at x m = made_of_told (told_at x m)

abbrev pub IsLentAt : Instance → code.Message → Type 0
IsLentAt x m = made_at x m ≡ None

abbrev pub IsLentIn : ReplicaState → code.Message → Type 0
IsLentIn r m = InInstance r m.instance (λ x. IsLentAt x m)

-- nothing is rebuilt
abbrev pub IsNotToldIn : ReplicaState → code.Message → Type 0
IsNotToldIn r m = InInstance r m.instance (λ x. told_at x m ≡ None)
