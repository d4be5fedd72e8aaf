-- Messages whose sets are told over whatever bases the links between nodes choose: over what each believes
-- of a receiver, be it true or not.
use Rattle.std.specs.Prelude.{◌≡◌, ◌⊎◌, ℕ, ◌≤◌, List, slice_get, Contains, Some}
use Rattle.la_set.specs.declared.counts.Counts.{Counts}
use Rattle.la_proposer.specs.declared.proposer.TheConstants.{MAX_CAP}
use Rattle.la_replica.specs.declared.error.ReplicaError.{ReplicaError}
use Rattle.la_replica.specs.declared.error.ReplicaError.TheVariants.{NoBase, Memory}
use Rattle.la_replica.specs.declared.message.Message as code
use Rattle.la_replica.specs.Alike.{AreAlike}
use Rattle.la_replica.specs.Fitting.{FitsReceiver}
use Rattle.la_replica.specs.Received.{received_in, StandsIn, AgreesIn}
use Rattle.la_replica.specs.Rebased.{rebased_message, MayBeOver, HasBaseIn}
use Rattle.la_replica.specs.Parcels.{wrapped, unwrapped_in, view_of, HasToldBase, UnwrapsIn}
use Rattle.la_replica.specs.Refusals.{IsReceiptRefusal}
use Rattle.la_replica.specs.ReplicaState.{ReplicaState, receives}
use Rattle.la_replica.specs.Whole.{whole_of}
use Rattle.la_world.specs.Events.{Event}
use Rattle.la_world.specs.Groups.{replicas, Group}
use Rattle.la_world.specs.Playing.{trace}
use Rattle.la_world.specs.ReplicaStates.{replica_state}
use Rattle.la_world.specs.StandsFor.{IsLegalTrace}
use Rattle.la_world.specs.Told.{told_messages}

-- ## A delivery

-- it is refused with NoBase, where its receiver has less than the base, and else for memory alone
abbrev pub IsRefusedFor : ReplicaState → code.Message → ReplicaError → Type 0
IsRefusedFor r m e = ((e ≡ NoBase) × (¬ HasBaseIn r m)) ⊎ (e ≡ Memory)

-- a message that was sent, told over this base: where its receiver has the base it is received as it
-- was sent, and fits
pub record IsReceivedOver (r : ReplicaState) (b : Counts) (m : code.Message) : Type 0 where
  pub stands : HasBaseIn r (rebased_message b m) → StandsIn r (rebased_message b m)
  pub agrees : HasBaseIn r (rebased_message b m) → AgreesIn r (rebased_message b m)
  pub received : HasBaseIn r (rebased_message b m) →
      receives r (received_in r (rebased_message b m)) ≡ receives r (whole_of m)
  pub fits : HasBaseIn r (rebased_message b m) →
      FitsReceiver r (received_in r (rebased_message b m))
  pub refused : (e : ReplicaError) → IsReceiptRefusal r (rebased_message b m) e →
      IsRefusedFor r (rebased_message b m) e

-- so it is of all that was sent, over whatever base that its set has
abbrev pub DeliveriesFitOver : Type 0
DeliveriesFitOver = (g : Group) (events : List Event) (k : ℕ) (m : code.Message) (b : Counts) →
    replicas g ≤ 8 → g.cap ≤ MAX_CAP → IsLegalTrace g events → let t = trace g events in
    slice_get (told_messages (replicas g) t) k ≡ Some m → MayBeOver b m.body →
    IsReceivedOver (replica_state g t m.to) b m

-- ## A parcel

-- what was sent, wrapped for whatever is believed of its receiver: where that has the told set's base it is
-- this message there
pub record IsUnwrapped (r : ReplicaState) (believed : Counts) (m : code.Message) : Type 0 where
  pub unwraps : HasToldBase (view_of r m.instance) believed m.body → UnwrapsIn r (wrapped believed m)
  pub same : UnwrapsIn r (wrapped believed m) → unwrapped_in r (wrapped believed m) ≡ m

abbrev pub ParcelsFit : Type 0
ParcelsFit = (g : Group) (events : List Event) (k : ℕ) (m : code.Message) (believed : Counts) →
    replicas g ≤ 8 → g.cap ≤ MAX_CAP → IsLegalTrace g events → let t = trace g events in
    slice_get (told_messages (replicas g) t) k ≡ Some m → IsUnwrapped (replica_state g t m.to) believed m

-- ## What may be on a network

-- a message says the same as one that was sent, whatever its delta was made of, or as that one over another
-- base of its set
abbrev pub TellsAs : (message sent : code.Message) → Type 0
TellsAs m n =
    AreAlike m n ⊎ ((b : Counts) × MayBeOver b n.body × AreAlike m (rebased_message b n))

-- it is one of these, told so
abbrev pub IsRetold : code.Message → (sent : List code.Message) → Type 0
IsRetold m sent = (n : code.Message) × Contains sent n × TellsAs m n

abbrev pub AreRetold : (mail sent : List code.Message) → Type 0
AreRetold mail sent = (m : code.Message) → Contains mail m → IsRetold m sent
