-- A message whose set is told over other counts than those that it was sent over: over whatever the
-- sender's link believes that its receiver has.
use Rattle.std.specs.Prelude.{◌≡◌, ◌⊎◌, ℕ, ◌==◌, IfSome, if◌then◌else◌}
use Rattle.la_set.specs.declared.counts.Counts.{Counts}
use Rattle.la_set.specs.Histories.{Histories, IsWithinLimit}
use Rattle.la_set.specs.Join.{IsCompatible}
use Rattle.la_set.specs.Counts.{HasCounts, zero_counts}
use Rattle.la_set.specs.Deltas.{DeltaState, delta_over, further}
use Rattle.la_replica.specs.declared.error.ReplicaError.{ReplicaError}
use Rattle.la_replica.specs.declared.error.ReplicaError.TheVariants.{NoBase, Memory}
use Rattle.la_replica.specs.declared.instance.Instance.{Instance}
use Rattle.la_replica.specs.declared.message.Message as code
use Rattle.la_replica.specs.declared.message.Body as code_body
use Rattle.la_replica.specs.declared.message.Body.TheVariants as body
use Rattle.la_replica.specs.Whole.{set_of, whole_of}
use Rattle.la_replica.specs.ReplicaState.{ReplicaState, InInstance}
use Rattle.la_replica.specs.Received.{Told, told_at}
use Rattle.la_replica.specs.Refusals.{IsReceiveRefusal}

-- the same delta of the same set, over this base
abbrev pub rebased : Counts → DeltaState → DeltaState
rebased b d = delta_over (set_of d) b

abbrev pub rebased_body : Counts → code_body.Body → code_body.Body
rebased_body b (body.Offer d) = body.Offer (rebased b d)
rebased_body b body.Yes = body.Yes
rebased_body b (body.No d) = body.No (rebased b d)
rebased_body b (body.Tell told) = body.Tell told

abbrev pub rebased_message : Counts → code.Message → code.Message
rebased_message b m = record {
  instance = m.instance;
  from = m.from;
  to = m.to;
  ballot = m.ballot;
  body = rebased_body b m.body;
}

-- the base is one of the set's: so a link may write it
pub record IsBaseOf (b : Counts) (s : Histories) : Type 0 where
  pub has : HasCounts s b
  pub few : IsWithinLimit s

abbrev pub MayBeOver : Counts → code_body.Body → Type 0
MayBeOver b (body.Offer d) = IsBaseOf b (set_of d)
MayBeOver b body.Yes = Unit {0}
MayBeOver b (body.No d) = IsBaseOf b (set_of d)
MayBeOver b (body.Tell told) = Unit {0}

-- ## At its receiver

-- what is here has the base
abbrev pub HasBaseAt : Instance → code.Message → Type 0
HasBaseAt x m = IfSome (told_at x m) (λ (t : Told). HasCounts t.over t.delta.base)

abbrev pub HasBaseIn : ReplicaState → code.Message → Type 0
HasBaseIn r m = InInstance r m.instance (λ x. HasBaseAt x m)

-- of what is told and what is here no id has two updates
abbrev pub IsOneAt : Instance → code.Message → Type 0
IsOneAt x m = IfSome (told_at x m) (λ (t : Told). IsCompatible t.over (set_of t.delta))

abbrev pub IsOneIn : ReplicaState → code.Message → Type 0
IsOneIn r m = InInstance r m.instance (λ x. IsOneAt x m)

-- what may refuse it over a base: that its receiver has less than the base; memory; and what refuses
-- the message as it was sent
abbrev pub IsRefusalOver : ReplicaState → (rebased sent : code.Message) → ReplicaError → Type 0
IsRefusalOver r n m e =
    ((e ≡ NoBase) × (¬ HasBaseIn r n)) ⊎ ((e ≡ Memory) ⊎ IsReceiveRefusal r (whole_of m) e)

-- ## Further

-- an offer is told over as much of these counts as its set has, where that is more than what it is told over
abbrev pub further_body : Counts → code_body.Body → code_body.Body
further_body c (body.Offer d) = body.Offer (further c d)
further_body c body.Yes = body.Yes
further_body c (body.No d) = body.No d
further_body c (body.Tell told) = body.Tell told

-- what of these counts of accepted updates is of an instance: they are of instance 0
abbrev pub further_counts : Counts → (instance : ℕ) → Counts
further_counts c i = if i == 0 then c else zero_counts

abbrev pub told_further : Counts → code.Message → code.Message
told_further c m = record {
  instance = m.instance;
  from = m.from;
  to = m.to;
  ballot = m.ballot;
  body = further_body (further_counts c m.instance) m.body;
}

-- an offer that was made of a set is over one of that set's bases
abbrev pub IsOfferOver : code_body.Body → Type 0
IsOfferOver (body.Offer d) = IfSome d.made_of (IsBaseOf d.base)
IsOfferOver body.Yes = Unit {0}
IsOfferOver (body.No d) = Unit {0}
IsOfferOver (body.Tell told) = Unit {0}

-- a message that is told further is that message, or the same over another base of its set
abbrev pub FurtherIsRebased : Type 0
FurtherIsRebased = (c : Counts) (m : code.Message) → IsOfferOver (told_further c m).body →
    (told_further c m ≡ m) ⊎ ((b : Counts) × MayBeOver b m.body × (told_further c m ≡ rebased_message b m))
