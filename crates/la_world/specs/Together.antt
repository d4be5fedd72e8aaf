-- Replicas that run each by itself, together: what they keep, the letters that any of them sent, and of which sets any
-- of them said that it has learnt them. A transport brings a letter that was sent to whom it is for: late, again, in
-- any order, or never. A replica that is killed is started again where it was when it last gave something out, or
-- where some calls led from there whose letters are lost. What all of them keep, over all moments, is in Moments.
use Rattle.std.specs.Prelude.{◌≡◌, ◌⊎◌, ℕ, Bool, List, [], ◌∷◌, ◌++◌, filter, slice_get, slice_set, Contains, Some}
use Rattle.la_set.specs.declared.counts.Counts.{Counts}
use Rattle.la_replica.specs.declared.message.Message as code
use Rattle.la_replica.specs.declared.parcel.Parcel.{Parcel}
use Rattle.la_replica.specs.Again.{again}
use Rattle.la_replica.specs.Bases.{AreToldIn}
use Rattle.la_replica.specs.Parcels.{AreAlikeParcels, unwrapped_in, UnwrapsIn}
use Rattle.la_replica.specs.ReplicaState.{ReplicaState}
use Rattle.la_replica.specs.Whole.{whole_mail}
use Rattle.la_node.specs.declared.config.Config.{Config}
use Rattle.la_node.specs.declared.link.Letter.{Letter}
use Rattle.la_node.specs.declared.link.Links.{Links}
use Rattle.la_node.specs.Calls.{NodeCall, Submitted, Proposed, Received}
use Rattle.la_node.specs.Configs.{IsConfig}
use Rattle.la_node.specs.Links.{letters_of}
use Rattle.la_node.specs.Steps.{Given, node_step, after_call}
use Rattle.la_world.specs.Calls.{replica_states_at_start}
use Rattle.la_world.specs.LiveGroups.{LiveGroup, LearntSet, Reaches, learnt_by_call}
use Rattle.la_world.specs.LiveParcels.{AreParcelsAmong, parcels_of}
use Rattle.la_world.specs.Rebased.{AreRetold}

-- ## What they are

-- the first list is some of the second, in its order
abbrev pub AreSomeInOrder : {A : Type 0} → (some all : List A) → Type 0
AreSomeInOrder [] all = Unit {0}
AreSomeInOrder (x ∷ some) [] = ⊥
AreSomeInOrder (x ∷ some) (y ∷ all) = ((x ≡ y) × AreSomeInOrder some all) ⊎ AreSomeInOrder (x ∷ some) all

-- In a group of this config these calls, the newest first and each of a replica, led to these replicas, and all the
-- letters and learnt sets are theirs.
pub record AreTogether (c : Config) (calls : List (ℕ × NodeCall)) (states : List ReplicaState) (letters : List Letter)
    (learnt : List LearntSet) : Type 0 where
  pub group : LiveGroup
  pub reached : Reaches c calls group
  pub are : group.replicas ≡ states
  -- messages that were sent, be it over other bases of their sets: each letter is of one of them
  pub messages : List code.Message
  pub sent : AreRetold messages group.sent
  pub of_these : AreParcelsAmong (parcels_of letters) messages
  -- each set is one that the calls learnt, in order; of some that they learnt nobody may have been told
  pub said : AreSomeInOrder learnt group.learnt

-- a parcel says what one of these letters says
abbrev pub IsOfLetters : Parcel → List Letter → Type 0
IsOfLetters p letters = (letter : Letter) × Contains letters letter × AreAlikeParcels p letter.parcel

-- a call that replica r may be handed where it is this: a message is a parcel of a letter to it, and stands here
abbrev pub IsBrought : List Letter → (r : ℕ) → ReplicaState → NodeCall → Type 0
IsBrought letters r q (Submitted d) = Unit {0}
IsBrought letters r q (Proposed k value) = Unit {0}
IsBrought letters r q (Received m) =
    (p : Parcel) × (m ≡ unwrapped_in q p) × UnwrapsIn q p × (p.to ≡ r) × IsOfLetters p letters

-- calls that lead from one state of replica r to another, each brought to the state that it comes to
abbrev pub LeadBrought : List Letter → (r : ℕ) → List NodeCall → (before after : ReplicaState) → Type 0
LeadBrought letters r [] before after = before ≡ after
LeadBrought letters r (call ∷ calls) before after =
    IsBrought letters r before call
    × ((next : ReplicaState) × (after_call before call ≡ Some next) × LeadBrought letters r calls next after)

-- these calls of replica r, the oldest first, as a group has them
abbrev pub newest_first : (r : ℕ) → List NodeCall → List (ℕ × NodeCall)
newest_first r [] = []
newest_first r (call ∷ later) = newest_first r later ++ (r, call) ∷ []

-- ## They stay together

abbrev pub NewReplicasAreTogether : Type 0
NewReplicasAreTogether = (c : Config) → IsConfig c → AreTogether c [] (replica_states_at_start c) [] []

-- after a call of one of them, whatever is known of the receivers of its letters
abbrev pub CallsKeepTogether : Type 0
CallsKeepTogether =
    (c : Config) (calls : List (ℕ × NodeCall)) (states : List ReplicaState) (letters : List Letter)
    (learnt : List LearntSet) (r : ℕ) (q made : ReplicaState) (call : NodeCall) (given : Given) (links : Links) →
    AreTogether c calls states letters learnt → slice_get states r ≡ Some q → IsBrought letters r q call →
    node_step q call ≡ Some (given, made) →
    AreTogether c ((r, call) ∷ calls) (slice_set states r made) (letters ++ letters_of links made given.mail)
    (learnt ++ learnt_by_call r call given.said)

-- where some of the letters are lost, or never went out
abbrev pub FewerLettersKeepTogether : Type 0
FewerLettersKeepTogether =
    (c : Config) (calls : List (ℕ × NodeCall)) (states : List ReplicaState) (letters left : List Letter)
    (learnt : List LearntSet) →
    AreTogether c calls states letters learnt → ((letter : Letter) → Contains left letter → Contains letters letter) →
    AreTogether c calls states left learnt

-- after calls of one of them of which nothing was given out: they count as calls all the same
abbrev pub LostCallsKeepTogether : Type 0
LostCallsKeepTogether =
    (c : Config) (calls : List (ℕ × NodeCall)) (states : List ReplicaState) (letters : List Letter)
    (learnt : List LearntSet) (r : ℕ) (q made : ReplicaState) (lost : List NodeCall) →
    AreTogether c calls states letters learnt → slice_get states r ≡ Some q → LeadBrought letters r lost q made →
    AreTogether c (newest_first r lost ++ calls) (slice_set states r made) letters learnt

-- once one of them has sent again what waits for an answer, or some of it: what its links choose
abbrev pub RepeatsKeepTogether : Type 0
RepeatsKeepTogether =
    (c : Config) (calls : List (ℕ × NodeCall)) (states : List ReplicaState) (letters : List Letter)
    (learnt : List LearntSet) (r : ℕ) (q : ReplicaState) (mail : List code.Message) (links : Links)
    (chosen : code.Message → Bool) →
    AreTogether c calls states letters learnt → slice_get states r ≡ Some q →
    whole_mail mail ≡ again q → ((offered : Counts) → AreToldIn q offered mail) →
    AreTogether c calls states (letters ++ letters_of links q (filter chosen mail)) learnt
