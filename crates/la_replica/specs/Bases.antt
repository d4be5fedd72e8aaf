-- What a message is told over.
use Rattle.std.specs.Prelude.{◌≡◌, ℕ, min, All, List, ◌++◌, Some}
use Rattle.la_set.specs.declared.counts.Counts.{Counts}
use Rattle.la_set.specs.Counts.{count_in, counts_of, from_counts, zero_counts}
use Rattle.la_set.specs.Deltas.{DeltaState, delta_over}
use Rattle.la_proposer.specs.ProposerState.{ProposerState, reported}
use Rattle.la_replica.specs.declared.message.Message as code
use Rattle.la_replica.specs.declared.message.Body as code_body
use Rattle.la_replica.specs.declared.message.Body.TheVariants as body
use Rattle.la_replica.specs.Whole.{Message, Body, Offer, Yes, No, Tell, set_of}
use Rattle.la_replica.specs.ReplicaState.{ReplicaState, InInstance}
use Rattle.la_replica.specs.declared.change.Change.{Change}
use Rattle.la_replica.specs.Changes.{after_commit, AreSameIn}

-- of each replica the smaller of two counts
abbrev pub smaller : Counts → Counts → Counts
smaller c d = from_counts (λ r. min (count_in c r) (count_in d r))

-- a delta was made of a set over this base
abbrev pub IsMadeOver : Counts → DeltaState → Type 0
IsMadeOver base d = d ≡ delta_over (set_of d) base

-- an offer's base is the smaller, of each replica, of what its receiver last reported and what the
-- ballot's set has; that of a refusal is what the offer had that it answers
abbrev pub IsToldBody : (reported offered : Counts) → code_body.Body → Type 0
IsToldBody reported offered (body.Offer d) = IsMadeOver (smaller reported (counts_of (set_of d))) d
IsToldBody reported offered body.Yes = Unit {0}
IsToldBody reported offered (body.No d) = IsMadeOver offered d
IsToldBody reported offered (body.Tell told) = Unit {0}

-- the same of a message in an instance, where the proposer keeps this; and of mail
abbrev pub IsToldBy : ProposerState → (instance : ℕ) → (offered : Counts) → code.Message → Type 0
IsToldBy p i offered m = (m.instance ≡ i) × IsToldBody (reported p m.to) offered m.body

abbrev pub AreToldBy :
    ProposerState → (instance : ℕ) → (offered : Counts) → List code.Message → Type 0
AreToldBy p i offered mail = All (IsToldBy p i offered) mail

-- the later mail is the earlier one, and then messages that are told so
abbrev pub AddsTold :
    ProposerState → (instance : ℕ) → (offered : Counts)
    → (before after : List code.Message) → Type 0
AddsTold p i offered before after =
    (added : List code.Message) × (after ≡ before ++ added) × AreToldBy p i offered added

-- what a message offers, by its counts
abbrev pub offered_in : Body → Counts
offered_in (Offer offered) = counts_of offered
offered_in Yes = zero_counts
offered_in (No accepted) = zero_counts
offered_in (Tell told) = zero_counts

abbrev pub offered_by : Message → Counts
offered_by m = offered_in m.body

-- ## In a replica

-- the same of mail of a replica that keeps this
abbrev pub IsToldIn : ReplicaState → (offered : Counts) → code.Message → Type 0
IsToldIn r offered m =
    InInstance r m.instance (λ x. IsToldBody (reported x.proposer m.to) offered m.body)

abbrev pub AreToldIn : ReplicaState → (offered : Counts) → List code.Message → Type 0
AreToldIn r offered mail = All (IsToldIn r offered) mail

-- and all of it is of one instance
abbrev pub AreToldFrom :
    ReplicaState → (instance : ℕ) → (offered : Counts) → List code.Message → Type 0
AreToldFrom r i offered mail = All (λ m. (m.instance ≡ i) × IsToldIn r offered m) mail

-- mail that was prepared with a change, once that is committed
abbrev pub AreToldAfter : ReplicaState → Change → (offered : Counts) → List code.Message → Type 0
AreToldAfter r c offered mail =
    (after : ReplicaState) → after_commit r c ≡ Some after
    → AreToldFrom after c.instance offered mail

-- of a submission in an instance, which sends no refusal: from whatever state of this replica has the same there
abbrev pub AreToldThere : ReplicaState → (instance : ℕ) → Change → List code.Message → Type 0
AreToldThere r i c mail =
    (s : ReplicaState) (offered : Counts) → AreSameIn i r s → AreToldAfter s c offered mail
