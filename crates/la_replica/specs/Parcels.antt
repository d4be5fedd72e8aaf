-- Parcels: messages as links hand them on. A told set goes over what its receiver's view is believed to
-- have. What else a message says goes as it is: an offer and a refusal have a base already.
use Rattle.std.specs.Prelude.{◌≡◌, ℕ, ◌==◌, ◌⊎◌, if◌then◌else◌}
use Rattle.la_set.specs.declared.counts.Counts.{Counts}
use Rattle.la_set.specs.declared.error.SetError.{SetError}
use Rattle.la_set.specs.declared.error.SetError.TheVariants as set_error
use Rattle.la_set.specs.Histories.{Histories, IsWithinLimit, empty}
use Rattle.la_set.specs.Join.{IsCompatible}
use Rattle.la_set.specs.Counts.{HasCounts, counts_of, zero_counts}
use Rattle.la_set.specs.Deltas.{delta_over, rebuilt, IsOver, IsRebuildRefusal}
use Rattle.la_replica.specs.declared.error.ReplicaError.{ReplicaError}
use Rattle.la_replica.specs.declared.error.ReplicaError.TheVariants.{NoSuchReplica, NoSuchInstance, Full, NoBase, Gap, Clash, BallotsSpent, Memory}
use Rattle.la_replica.specs.declared.message.Message as code
use Rattle.la_replica.specs.declared.message.Body as code_body
use Rattle.la_replica.specs.declared.message.Body.TheVariants as body
use Rattle.la_replica.specs.declared.parcel.Parcel.{Parcel}
use Rattle.la_replica.specs.declared.parcel.Content.{Content}
use Rattle.la_replica.specs.declared.parcel.Content.TheVariants.{Offer, Yes, No, Tell}
use Rattle.la_replica.specs.Alike.{AreAlikeDeltas}
use Rattle.la_replica.specs.Bases.{smaller}
use Rattle.la_replica.specs.Received.{received_in}
use Rattle.la_replica.specs.Refusals.{IsFor, IsReceiptRefusal}
use Rattle.la_replica.specs.ReplicaState.{ReplicaState, InInstance}

-- ## As a link makes them

-- what a told set goes over: of each replica the smaller of what is believed and of what the set has
abbrev pub told_base : (believed : Counts) → (told : Histories) → Counts
told_base believed told = smaller believed (counts_of told)

abbrev pub wrapped_body : (believed : Counts) → code_body.Body → Content
wrapped_body believed (body.Offer d) = Offer d
wrapped_body believed body.Yes = Yes
wrapped_body believed (body.No d) = No d
wrapped_body believed (body.Tell told) = Tell (delta_over told (told_base believed told))

abbrev pub wrapped : (believed : Counts) → code.Message → Parcel
wrapped believed m = record {
  instance = m.instance;
  from = m.from;
  to = m.to;
  ballot = m.ballot;
  content = wrapped_body believed m.body;
}

-- no number in a told set is over the limit, as in every set of the code
abbrev pub IsTellWithinLimit : code_body.Body → Type 0
IsTellWithinLimit (body.Offer d) = Unit {0}
IsTellWithinLimit body.Yes = Unit {0}
IsTellWithinLimit (body.No d) = Unit {0}
IsTellWithinLimit (body.Tell told) = IsWithinLimit told

-- what two parcels say is the same, whatever their deltas were made of
abbrev pub AreAlikeContents : Content → Content → Type 0
AreAlikeContents (Offer d) (Offer e) = AreAlikeDeltas d e
AreAlikeContents Yes Yes = Unit {0}
AreAlikeContents (No d) (No e) = AreAlikeDeltas d e
AreAlikeContents (Tell d) (Tell e) = AreAlikeDeltas d e
AreAlikeContents _ _ = ⊥

pub record AreAlikeParcels (p q : Parcel) : Type 0 where
  pub instance : p.instance ≡ q.instance
  pub from : p.from ≡ q.from
  pub to : p.to ≡ q.to
  pub ballot : p.ballot ≡ q.ballot
  pub content : AreAlikeContents p.content q.content

-- a parcel says what this message does, where it was wrapped for whatever is believed of its receiver
abbrev pub IsParcelOf : Parcel → code.Message → Type 0
IsParcelOf p m = (believed : Counts) × AreAlikeParcels p (wrapped believed m)

-- ## Over a set

-- as a message: a told set is rebuilt over this one
abbrev pub unwrapped_body : (over : Histories) → Content → code_body.Body
unwrapped_body over (Offer d) = body.Offer d
unwrapped_body over Yes = body.Yes
unwrapped_body over (No d) = body.No d
unwrapped_body over (Tell d) = body.Tell (rebuilt over d)

abbrev pub unwrapped : (over : Histories) → Parcel → code.Message
unwrapped over p = record {
  instance = p.instance;
  from = p.from;
  to = p.to;
  ballot = p.ballot;
  body = unwrapped_body over p.content;
}

-- a told set stands for something there
abbrev pub Unwraps : (over : Histories) → Content → Type 0
Unwraps over (Offer d) = Unit {0}
Unwraps over Yes = Unit {0}
Unwraps over (No d) = Unit {0}
Unwraps over (Tell d) = IsOver over d

-- or it is refused
abbrev pub IsShut : (over : Histories) → Content → SetError → Type 0
IsShut over (Offer d) e = ⊥
IsShut over Yes e = ⊥
IsShut over (No d) e = ⊥
IsShut over (Tell d) e = IsRebuildRefusal over d e

-- the base of a told set; of what tells none no counts at all
abbrev pub base_of_told : Content → Counts
base_of_told (Offer d) = zero_counts
base_of_told Yes = zero_counts
base_of_told (No d) = zero_counts
base_of_told (Tell d) = d.base

-- nothing is told
abbrev pub TellsNothing : Content → Type 0
TellsNothing (Offer d) = Unit {0}
TellsNothing Yes = Unit {0}
TellsNothing (No d) = Unit {0}
TellsNothing (Tell d) = ⊥

-- ## In a replica

-- what the view has of an instance: all of instance 0, and nothing of another one
abbrev pub view_of : ReplicaState → (instance : ℕ) → Histories
view_of r i = if i == 0 then r.view else empty

-- a parcel as a message to this replica
abbrev pub unwrapped_in : ReplicaState → Parcel → code.Message
unwrapped_in r p = unwrapped (view_of r p.instance) p

abbrev pub UnwrapsIn : ReplicaState → Parcel → Type 0
UnwrapsIn r p = Unwraps (view_of r p.instance) p.content

abbrev pub IsShutIn : ReplicaState → Parcel → SetError → Type 0
IsShutIn r p e =
    IsFor r (received_in r (unwrapped_in r p))
    × InInstance r p.instance (λ x. IsShut (view_of r p.instance) p.content e)

-- it is refused before it is a message, in the order in which it is tested: it is not for this replica, of no
-- instance here, or its told set stands for nothing, or memory runs out for that
abbrev pub IsUnwrapRefusal : ReplicaState → Parcel → ReplicaError → Type 0
IsUnwrapRefusal r p NoSuchReplica = IsReceiptRefusal r (unwrapped_in r p) NoSuchReplica
IsUnwrapRefusal r p NoSuchInstance = IsReceiptRefusal r (unwrapped_in r p) NoSuchInstance
IsUnwrapRefusal r p NoBase = IsShutIn r p set_error.NoBase
IsUnwrapRefusal r p Gap = IsShutIn r p set_error.Gap
IsUnwrapRefusal r p Memory = IsShutIn r p set_error.Memory
IsUnwrapRefusal r p Full = ⊥
IsUnwrapRefusal r p (Clash id) = ⊥
IsUnwrapRefusal r p BallotsSpent = ⊥

-- and else as the message that it is
abbrev pub IsParcelRefusal : ReplicaState → Parcel → ReplicaError → Type 0
IsParcelRefusal r p e =
    IsUnwrapRefusal r p e ⊎ (UnwrapsIn r p × IsReceiptRefusal r (unwrapped_in r p) e)

-- ## What is known of a told set

-- the base over which a message's told set is wrapped is there
abbrev pub HasToldBase : (over : Histories) → (believed : Counts) → code_body.Body → Type 0
HasToldBase over believed (body.Offer d) = Unit {0}
HasToldBase over believed body.Yes = Unit {0}
HasToldBase over believed (body.No d) = Unit {0}
HasToldBase over believed (body.Tell told) = HasCounts over (told_base believed told)

-- of a told set and what is there no id has two updates
abbrev pub IsOneTold : (over : Histories) → code_body.Body → Type 0
IsOneTold over (body.Offer d) = Unit {0}
IsOneTold over body.Yes = Unit {0}
IsOneTold over (body.No d) = Unit {0}
IsOneTold over (body.Tell told) = IsCompatible over told
