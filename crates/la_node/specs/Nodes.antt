-- A node as contracts see it: one replica of a group with its shelf, and what a call on it comes to.
use Rattle.std.specs.Prelude.{◌≡◌, ℕ, ◌+◌, ◌*◌, ◌<◌, ◌≤◌, ◌%◌, true, false, List, [], length, map, slice_get, Option, Some, IsSome, IsSomeAnd, option_and_then}
use Rattle.la_set.specs.declared.update.UpdateId.{UpdateId}
use Rattle.la_set.specs.Histories.{empty}
use Rattle.la_set.specs.Inclusion.{IsSubset}
use Rattle.la_proposer.specs.declared.ballot.Ballot.{Ballot}
use Rattle.la_proposer.specs.Majority.{votes_of}
use Rattle.la_proposer.specs.ProposerState.{ProposerState, submitted}
use Rattle.la_commit.specs.declared.instance.TheConstants.{MAX_COMMITS}
use Rattle.la_commit.specs.declared.outcome.Outcome.{Outcome}
use Rattle.la_commit.specs.Instances.{first_instance, second_instance}
use Rattle.la_object.specs.declared.error.ShelfError.{ShelfError}
use Rattle.la_object.specs.declared.error.ShelfError.TheVariants.{NoSuchObject, TooManyTags, Memory as ShelfMemory}
use Rattle.la_object.specs.Shelves.{ShelfState}
use Rattle.la_object.specs.Refusals.{IsTagsRefusal}
use Rattle.la_replica.specs.declared.instance.Instance.{Instance}
use Rattle.la_replica.specs.declared.out.Said.{Said}
use Rattle.la_replica.specs.Steps.{learnt_in}
use Rattle.la_replica.specs.ReplicaState.{ReplicaState, start, last_learnt, submitted_in}
use Rattle.la_node.specs.declared.config.Config.{Config}
use Rattle.la_node.specs.declared.error.WorldError.{WorldError}
use Rattle.la_node.specs.declared.error.WorldError.TheVariants.{BadConfig, NoSuchReplica, NoSuchCommit, AlreadyProposed, Memory}
use Rattle.la_node.specs.Configs.{IsConfig}
use Rattle.la_commit.specs.Outcomes.{outcome_of, outcome_in}

pub record NodeState : Type 0 where
  pub replica : ReplicaState
  pub shelf : ShelfState

-- the shelf once it has absorbed the replica's view
abbrev pub followed : NodeState → ShelfState
followed n = record { view = n.replica.view; objects = n.shelf.objects }

-- with this shelf
abbrev pub with_shelf : NodeState → ShelfState → NodeState
with_shelf n shelf = record { replica = n.replica; shelf = shelf }

-- what is left where tags of an object on its shelf were not told: the same node, or one whose shelf
-- has absorbed the view; where memory ran out it may have absorbed a part
abbrev pub LeftUntoldNode : ShelfError → (before after : NodeState) → Type 0
LeftUntoldNode NoSuchObject before after = after ≡ before
LeftUntoldNode TooManyTags before after = after ≡ with_shelf before (followed before)
LeftUntoldNode _ before after = Unit {0}

-- the replicas of a group's nodes, from 0 on
abbrev pub replicas_of : List NodeState → List ReplicaState
replicas_of nodes = map (λ (n : NodeState). n.replica) nodes

-- and their shelves
abbrev pub shelves_of : List NodeState → List ShelfState
shelves_of nodes = map (λ (n : NodeState). n.shelf) nodes

-- what a replica returned from object k, if it has
abbrev pub returned_by : (k : ℕ) → ReplicaState → Option Outcome
returned_by k state =
    option_and_then (λ s. outcome_of s state.own) (last_learnt state (second_instance k))

-- ## What holds of every node

-- an instance of an adopt-commit object: its proposer submits at most once, and is idle for good
-- once it has learnt a set
pub record SubmitsOnce (p : ProposerState) (learnt : Option Ballot) : Type 0 where
  pub known : p.own < 8
  pub cap : p.cap ≡ 1
  pub waits : p.waiting ≡ []
  pub asks : p.is_asking ≡ true → 1 ≤ submitted p
  pub learnt_idles : IsSome learnt → (p.is_asking ≡ false) × (1 ≤ submitted p)
  pub unused : submitted p ≡ 0 → p.number ≡ 0

-- users submit in instance 0 and propose in first instances alone: so in a second one a replica has
-- submitted nothing, or has learnt a set in the first one
pub record IsParticipant (r : ReplicaState) : Type 0 where
  pub odd : length r.instances % 2 ≡ 1
  pub few : length r.instances ≤ 2 * MAX_COMMITS + 1
  pub once :
      (i : ℕ) (x : Instance) → 0 < i → slice_get r.instances i ≡ Some x
      → SubmitsOnce x.proposer x.learnt
  pub second :
      (k : ℕ) (x y : Instance) → slice_get r.instances (first_instance k) ≡ Some x
      → slice_get r.instances (second_instance k) ≡ Some y → 1 ≤ submitted y.proposer
      → IsSome x.learnt

pub record IsNode (n : NodeState) : Type 0 where
  -- so absorption compares counts alone
  pub within : IsSubset n.shelf.view n.replica.view
  -- so a second vote is refused for want of memory alone
  pub participates : IsParticipant n.replica

-- ## Making one

-- every value of the group in its range, and a shelf that has absorbed nothing
pub record MayStart (c : Config) (shelf : ShelfState) : Type 0 where
  pub config : IsConfig c
  pub unused : shelf.view ≡ empty

abbrev pub node_at_start : Config → (own : ℕ) → ShelfState → NodeState
node_at_start c own shelf = record {
  replica = start (votes_of c.votes) own c.cap c.commits;
  shelf = shelf;
}

abbrev pub IsStartRefusal : Config → (own : ℕ) → ShelfState → WorldError → Type 0
IsStartRefusal c own shelf BadConfig = ¬ MayStart c shelf
IsStartRefusal c own shelf NoSuchReplica = MayStart c shelf × (c.replicas ≤ own)
IsStartRefusal c own shelf Memory = MayStart c shelf × (own < c.replicas)
IsStartRefusal c own shelf _ = ⊥

-- ## Adopt-commit

-- a proposal to object k: there is no such object, else it was proposed to before; else memory may
-- run out
abbrev pub IsProposeRefusal : ReplicaState → (commit : ℕ) → WorldError → Type 0
IsProposeRefusal r k NoSuchCommit = length r.instances ≤ first_instance k
IsProposeRefusal r k AlreadyProposed =
    IsSomeAnd (submitted_in r (first_instance k)) (λ count. 1 ≤ count)
IsProposeRefusal r k Memory = submitted_in r (first_instance k) ≡ Some 0
IsProposeRefusal r k _ = ⊥

-- what a replica returns, once it has said this of a message of instance i
abbrev pub outcome_due : (i r : ℕ) → Said → Option Outcome
outcome_due i r said = option_and_then (outcome_in i r) (learnt_in said)

-- what a replica returned from an object it still returns
abbrev pub OutcomesStayIn : (before after : ReplicaState) → Type 0
OutcomesStayIn before after = (k : ℕ) (o : Outcome) →
    returned_by k before ≡ Some o → returned_by k after ≡ Some o

-- an outcome that is told where a message of instance i was received is what the replica returns
-- from then on, where i is the second instance of an object
abbrev pub ReturnsIn : (i : ℕ) → (told : Option Outcome) → (after : ReplicaState) → Type 0
ReturnsIn i told after = (k : ℕ) (o : Outcome) →
    i ≡ second_instance k → told ≡ Some o → returned_by k after ≡ Some o

-- ## Looking at the shelf

-- the tags that an object on the shelf observes by the view: as on a shelf, but that memory may run
-- out while it absorbs the view
abbrev pub IsObservedRefusal : Option (List UpdateId) → ShelfError → Type 0
IsObservedRefusal tags ShelfMemory = IsSome tags
IsObservedRefusal tags e = IsTagsRefusal tags e
