-- What a contract sees of a group and of its members.
use Rattle.std.specs.Prelude.{◌≡◌, ◌≢◌, ℕ, Bool, false, List, [], ◌∷◌, ◌++◌, map, slice_get, Option, Some, None, IsSomeAnd}
use mathlib.Core.List.{IsPrefix}
use Rattle.la_set.specs.ObjectOps.{ObjectOp}
use Rattle.la_set.specs.Histories.{Histories, history, empty}
use Rattle.la_set.specs.Inclusion.{IsSubset}
use Rattle.la_proposer.specs.Inputs.{all_submitted}
use Rattle.la_shared.specs.Passes.{Known, AcceptorName}
use Rattle.la_runner.specs.Certificates.{passes_seen_at, mine_at, HasCertificate, HasOwnCertificate}
use Rattle.la_runner.specs.Following.{acceptors_of}
use Rattle.la_runner.specs.Instances.{InstanceState}

pub record MemberState : Type 0 where
  -- the votes of its group, and which replica it is
  pub votes : List ℕ
  pub replica : ℕ
  -- of each instance, from 0 on
  pub instances : List InstanceState

-- there is an instance with this number, and a fact holds of it
abbrev pub InMemberInstance : MemberState → (instance : ℕ) → (InstanceState → Type 0) → Type 0
InMemberInstance m i P = IsSomeAnd (slice_get m.instances i) P

-- ## What there is in an instance; nothing, where there is no such instance

abbrev pub passes_of : Option InstanceState → List Known
passes_of None = []
passes_of (Some x) = x.passes

abbrev pub passes_in : MemberState → (instance : ℕ) → List Known
passes_in m i = passes_of (slice_get m.instances i)

abbrev pub submitted_of : Option InstanceState → List ObjectOp
submitted_of None = []
submitted_of (Some x) = all_submitted x.proposer

-- what the member has submitted there, in order
abbrev pub member_submitted : MemberState → (instance : ℕ) → List ObjectOp
member_submitted m i = submitted_of (slice_get m.instances i)

abbrev pub is_asking_of : Option InstanceState → Bool
is_asking_of None = false
is_asking_of (Some x) = x.proposer.is_asking

-- whether a ballot is open there
abbrev pub is_asking_in : MemberState → (instance : ℕ) → Bool
is_asking_in m i = is_asking_of (slice_get m.instances i)

abbrev pub number_of : Option InstanceState → ℕ
number_of None = 0
number_of (Some x) = x.proposer.number

-- the last ballot's number
abbrev pub ballot_number_in : MemberState → (instance : ℕ) → ℕ
ballot_number_in m i = number_of (slice_get m.instances i)

abbrev pub instance_learnt : Option InstanceState → Option Histories
instance_learnt None = None
instance_learnt (Some x) = x.learnt

-- the last set that it learnt there
abbrev pub member_learnt : MemberState → (instance : ℕ) → Option Histories
member_learnt m i = instance_learnt (slice_get m.instances i)

abbrev pub instance_view : Option InstanceState → Histories
instance_view None = empty
instance_view (Some x) = x.view

-- what it answers questions from
abbrev pub member_view : MemberState → Histories
member_view m = instance_view (slice_get m.instances 0)

-- a majority of the acceptors of an instance, by votes, acknowledged the set: as far as the member's
-- passes have seen, or by its own entries
abbrev pub IsCertified : MemberState → (instance : ℕ) → Histories → Type 0
IsCertified m i s = HasCertificate m.votes (passes_in m i) s

abbrev pub IsOwnCertified : MemberState → (instance : ℕ) → Histories → Type 0
IsOwnCertified m i s = HasOwnCertificate m.votes (passes_in m i) s

-- ## Groups

pub record GroupState : Type 0 where
  pub votes : List ℕ
  -- the acceptors, by instance
  pub acceptors : List (List AcceptorName)

abbrev pub acceptors_in : MemberState → List (List AcceptorName)
acceptors_in m = map (λ x. acceptors_of x.passes) m.instances

-- the member has the group's votes, and its passes are of the group's acceptors
pub record IsOfGroup (group : GroupState) (m : MemberState) : Type 0 where
  pub votes : m.votes ≡ group.votes
  pub acceptors : acceptors_in m ≡ group.acceptors

-- ## How a member goes on

-- whatever a call answers: the passes have seen, and made, what they had, and perhaps more; what was
-- submitted stays, and the view only grows
pub record MemberGoesOn (old new : MemberState) : Type 0 where
  pub votes : new.votes ≡ old.votes
  pub replica : new.replica ≡ old.replica
  pub acceptors : acceptors_in new ≡ acceptors_in old
  pub seen : (i a : ℕ) → IsPrefix (passes_seen_at (passes_in old i) a) (passes_seen_at (passes_in new i) a)
  pub mine : (i a : ℕ) → IsPrefix (mine_at (passes_in old i) a) (mine_at (passes_in new i) a)
  pub submitted : (i : ℕ) → IsPrefix (member_submitted old i) (member_submitted new i)
  pub grows : IsSubset (member_view old) (member_view new)

-- in every instance but this one nothing changes
abbrev pub IsOnlyIn : (instance : ℕ) → MemberState → MemberState → Type 0
IsOnlyIn i old new = (j : ℕ) → j ≢ i → slice_get new.instances j ≡ slice_get old.instances j

-- ## Learnt sets

-- a set that was learnt in an instance: certified by own offers, it has all that the member has
-- submitted there, and contains each set that had an own certificate at the call
pub record IsLearntIn (instance : ℕ) (old new : MemberState) (s : Histories) : Type 0 where
  pub own : IsOwnCertified new instance s
  pub holds : history s new.replica ≡ member_submitted new instance
  pub contains_own : (t : Histories) → IsOwnCertified old instance t → IsSubset t s
  pub last : member_learnt new instance ≡ Some s

-- of an update: it is submitted, and the set contains each one that had a certificate at the call, and is the view
pub record IsUpdateOf (update : ObjectOp) (old new : MemberState) (s : Histories) : Type 0 where
  pub submitted : member_submitted new 0 ≡ member_submitted old 0 ++ update ∷ []
  pub learnt : IsLearntIn 0 old new s
  pub contains : (t : Histories) → IsCertified old 0 t → IsSubset t s
  pub view : member_view new ≡ s
