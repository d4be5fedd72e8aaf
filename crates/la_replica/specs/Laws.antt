-- What holds of every replica and every message.
use Rattle.la_set.specs.declared.counts.Counts.{Counts}
use Rattle.std.specs.Prelude.{◌≡◌}
use Rattle.la_replica.specs.declared.error.ReplicaError.{ReplicaError}
use Rattle.la_replica.specs.declared.message.Message as code
use Rattle.la_replica.specs.Whole.{whole_of}
use Rattle.la_replica.specs.ReplicaState.{ReplicaState, receives}
use Rattle.la_replica.specs.Received.{received_in, StandsIn, AgreesIn}
use Rattle.la_replica.specs.Rebased.{rebased_message, MayBeOver, HasBaseIn, IsOneIn, IsRefusalOver}
use Rattle.la_replica.specs.Refusals.{IsReceiptRefusal, IsReceivable}
use Rattle.la_replica.specs.Fitting.{FitsReceiver}

-- a message whose set is told over any base that it has is received as it was sent, or refused as it
-- would be, or for memory, or since its base is not here
pub record AnyBaseIsReceivedAlike : Type 0 where
  -- where it stands and agrees here
  pub received : (r : ReplicaState) (b : Counts) (m : code.Message) → MayBeOver b m.body →
      StandsIn r (rebased_message b m) → AgreesIn r (rebased_message b m) →
      receives r (received_in r (rebased_message b m)) ≡ receives r (whole_of m)
  pub fits : (r : ReplicaState) (b : Counts) (m : code.Message) → MayBeOver b m.body →
      StandsIn r (rebased_message b m) → AgreesIn r (rebased_message b m) →
      FitsReceiver r (whole_of m) → FitsReceiver r (received_in r (rebased_message b m))
  -- as it does where its base is here, and no id has two updates
  pub stands : (r : ReplicaState) (b : Counts) (m : code.Message) → MayBeOver b m.body →
      IsOneIn r m → HasBaseIn r (rebased_message b m) → StandsIn r (rebased_message b m)
  pub agrees : (r : ReplicaState) (b : Counts) (m : code.Message) → MayBeOver b m.body →
      IsOneIn r m → HasBaseIn r (rebased_message b m) → AgreesIn r (rebased_message b m)
  pub refused : (r : ReplicaState) (b : Counts) (m : code.Message) → MayBeOver b m.body →
      IsOneIn r m → (e : ReplicaError) → IsReceiptRefusal r (rebased_message b m) e →
      IsRefusalOver r (rebased_message b m) m e
  -- which is so where the message as it was sent fits
  pub one : (r : ReplicaState) (m : code.Message) → IsReceivable r (whole_of m) → IsOneIn r m
