-- What replicas that run each by itself keep over all moments: any two of one group, the second as late as the first or
-- later, whatever was lost, repeated or delivered late meanwhile, and whichever replica was killed and started again.
-- The fields have the words of Headline's `KeepsAll`.
use Rattle.std.specs.Prelude.{◌≡◌, ◌⊎◌, ◌==◌, ℕ, ◌+◌, ◌<◌, true, List, [], ◌∷◌, ◌++◌, length, map, slice_get, Contains}
use Rattle.std.specs.Prelude.{Some, IsSome, if◌then◌else◌}
use Rattle.la_set.specs.declared.update.Op.TheVariants.{Remove}
use Rattle.la_set.specs.declared.update.Update.{Update}
use Rattle.la_set.specs.declared.update.UpdateId.{UpdateId}
use Rattle.la_set.specs.Histories.{Histories, ContainsUpdate, empty, get, object_op_number}
use Rattle.la_set.specs.Inclusion.{IsSubset, AreComparable}
use Rattle.la_set.specs.ObjectOps.{ObjectOp, object_op_of}
use Rattle.la_commit.specs.declared.outcome.Outcome.{Outcome}
use Rattle.la_commit.specs.declared.outcome.Outcome.TheVariants.{Commit}
use Rattle.la_commit.specs.Outcomes.{value_of, is_commit}
use Rattle.la_object.specs.declared.kind.Kind.{Kind}
use Rattle.la_object.specs.declared.query.Answer.{Answer}
use Rattle.la_object.specs.declared.query.Query.{Query}
use Rattle.la_object.specs.Shelves.{kind_at, answer_at}
use Rattle.la_replica.specs.declared.instance.Instance.{Instance}
use Rattle.la_replica.specs.ReplicaState.{ReplicaState}
use Rattle.la_node.specs.declared.config.Config.{Config}
use Rattle.la_node.specs.declared.link.Letter.{Letter}
use Rattle.la_node.specs.Calls.{NodeCall, Submitted, Proposed, Received}
use Rattle.la_node.specs.Nodes.{returned_by, OutcomesStayIn}
use Rattle.la_world.specs.Calls.{views_of}
use Rattle.la_world.specs.Events.{Past}
use Rattle.la_world.specs.Headline.{IsStrictSubset}
use Rattle.la_world.specs.Learnings.{learnt}
use Rattle.la_world.specs.LiveGroups.{LiveGroup, LearntSet, Reaches, AreEventsOf, live_group_of, learnt_set_of}
use Rattle.la_world.specs.LiveGroups.{decisions_of}
use Rattle.la_world.specs.Playing.{trace}
use Rattle.la_world.specs.Promises.{GroupKeepsAll}
use Rattle.la_world.specs.Together.{AreTogether, AreSomeInOrder}

-- ## A moment

pub record GroupMoment : Type 0 where
  -- all that replicas were called for by then and accepted, the newest first, each with its replica
  pub calls : List (ℕ × NodeCall)
  -- the replicas, from 0 on
  pub states : List ReplicaState
  -- all the sets that any of them said it has learnt by then, in order
  pub learnt : List LearntSet

-- ### What was submitted

abbrev pub op_submitted : NodeCall → List ObjectOp
op_submitted (Submitted d) = d ∷ []
op_submitted (Proposed k value) = []
op_submitted (Received m) = []

-- what replica r submitted in instance 0 by these calls, in order: the numbers run from 1
abbrev pub ops_submitted : (r : ℕ) → (calls : List (ℕ × NodeCall)) → List ObjectOp
ops_submitted r [] = []
ops_submitted r (call ∷ calls) = ops_submitted r calls ++ (if call.0 == r then op_submitted call.1 else [])

-- this very update was, by its own replica and under its own number
abbrev pub WasCalledFor : (calls : List (ℕ × NodeCall)) → Update → Type 0
WasCalledFor calls u = object_op_number (ops_submitted u.id.replica calls) u.id.number ≡ Some (object_op_of u)

-- the update with this id was not yet: it comes later, if ever
abbrev pub IsStillToCome : (calls : List (ℕ × NodeCall)) → UpdateId → Type 0
IsStillToCome calls id = length (ops_submitted id.replica calls) < id.number

-- the id of what r submits next
abbrev pub id_to_come : (calls : List (ℕ × NodeCall)) → (r : ℕ) → UpdateId
id_to_come calls r = record { replica = r; number = length (ops_submitted r calls) + 1 }

-- all that a replica had submitted is in the set of its last ballot
abbrev pub NothingWaits : ReplicaState → Type 0
NothingWaits q = (x : Instance) → slice_get q.instances 0 ≡ Some x → x.proposer.waiting ≡ []

-- ### What is shown of instance 0, from which questions are answered

pub record IsViewThen (m : GroupMoment) (s : Histories) : Type 0 where
  pub replica : ReplicaState
  pub has : Contains m.states replica
  pub is : replica.view ≡ s

pub record WasNotedThen (m : GroupMoment) (s : Histories) : Type 0 where
  pub noted : LearntSet
  pub has : Contains m.learnt noted
  pub of_objects : noted.instance ≡ 0
  pub is : noted.updates ≡ s

-- one of the replicas has it as its view, or one had said that it has learnt it
abbrev pub IsShownThen : GroupMoment → Histories → Type 0
IsShownThen m s = IsViewThen m s ⊎ WasNotedThen m s

-- a set that these calls learnt, whoever was told of it
pub record CallsLearnt (c : Config) (calls : List (ℕ × NodeCall)) (x : LearntSet) : Type 0 where
  pub group : LiveGroup
  pub reached : Reaches c calls group
  pub has : Contains group.learnt x

-- ## What is learnt and shown

-- of any two sets that were learnt in one instance, whoever said so and when, one contains the other
abbrev pub NotedAreComparable : (before after : GroupMoment) → Type 0
NotedAreComparable before after =
    (x y : LearntSet) → Contains before.learnt x → Contains after.learnt y → x.instance ≡ y.instance →
    AreComparable x.updates y.updates

-- of those that one replica learnt in one instance the later is strictly larger, also after it was started again
abbrev pub NotedGrow : GroupMoment → Type 0
NotedGrow now =
    (j k : ℕ) (x y : LearntSet) → slice_get now.learnt j ≡ Some x → slice_get now.learnt k ≡ Some y →
    x.instance ≡ y.instance → x.replica ≡ y.replica → j < k → IsStrictSubset x.updates y.updates

-- all views, and all sets of instance 0 that were learnt, are one chain
abbrev pub ShownAreOneHistory : (before after : GroupMoment) → Type 0
ShownAreOneHistory before after =
    (s t : Histories) → IsShownThen before s → IsShownThen after t → AreComparable s t

-- no view shrinks
abbrev pub ViewsOnlyGrow : (before after : GroupMoment) → Type 0
ViewsOnlyGrow before after =
    (r : ℕ) (q p : ReplicaState) → slice_get before.states r ≡ Some q → slice_get after.states r ≡ Some p →
    IsSubset q.view p.view

-- a view contains each set of instance 0 that its replica said it has learnt, and is one that some replica learnt, or
-- empty
pub record IsLargestThen (c : Config) (now : GroupMoment) (r : ℕ) (view : Histories) : Type 0 where
  pub contains : (x : LearntSet) → Contains now.learnt x → x.instance ≡ 0 → x.replica ≡ r → IsSubset x.updates view
  pub is_one :
      ((x : LearntSet) × CallsLearnt c now.calls x × (x.instance ≡ 0) × (x.updates ≡ view)) ⊎ (view ≡ empty)

abbrev pub ViewsAreLargestThen : Config → GroupMoment → Type 0
ViewsAreLargestThen c now =
    (r : ℕ) (q : ReplicaState) → slice_get now.states r ≡ Some q → IsLargestThen c now r q.view

-- ## What a set holds

-- each update of what is shown was submitted by then, to the replica whose update it is
abbrev pub ShownWereSubmitted : GroupMoment → Type 0
ShownWereSubmitted now =
    (s : Histories) (u : Update) → IsShownThen now s → ContainsUpdate s u → WasCalledFor now.calls u

-- Where nothing waited at a replica, each set that it learns from then on holds all that it had submitted; any other
-- that it says it has learnt lay in its view then.
abbrev pub NotedHoldTheirOwn : (before after : GroupMoment) → Type 0
NotedHoldTheirOwn before after =
    (y : LearntSet) (q : ReplicaState) → Contains after.learnt y → y.instance ≡ 0 →
    slice_get before.states y.replica ≡ Some q → NothingWaits q →
    IsSubset y.updates q.view
    ⊎ ((u : Update) → u.id.replica ≡ y.replica → WasCalledFor before.calls u → ContainsUpdate y.updates u)

-- what is shown with an update that was submitted after a moment, as a Mark, contains all that was shown by that moment
abbrev pub ShownAreInOrder : (before after : GroupMoment) → Type 0
ShownAreInOrder before after =
    (s t : Histories) (id : UpdateId) → IsShownThen before s → IsStillToCome before.calls id →
    IsShownThen after t → IsSome (get t id) → IsSubset s t

-- an answer by a view: the query's value over a set that contains all that was shown by a moment
pub record IsCurrentSince (before : GroupMoment) (objects : List (ℕ × Kind)) (object : ℕ) (query : Query)
    (answer : Answer) : Type 0 where
  pub read : Histories
  pub value : answer_at (record { view = read; objects = objects }) object query ≡ Some answer
  pub current : (s : Histories) → IsShownThen before s → IsSubset s read

-- so is each answer by a view that holds an update which was submitted after it, as a Mark
abbrev pub MarksAreCurrent : (before after : GroupMoment) → Type 0
MarksAreCurrent before after =
    (p : ReplicaState) (mark : UpdateId) (objects : List (ℕ × Kind)) (object : ℕ) (query : Query) (answer : Answer) →
    Contains after.states p → IsSome (get p.view mark) → IsStillToCome before.calls mark →
    answer_at (record { view = p.view; objects = objects }) object query ≡ Some answer →
    IsCurrentSince before objects object query answer

-- a set that was shown by then has this update
pub record WasShown (m : GroupMoment) (id : UpdateId) : Type 0 where
  pub set : Histories
  pub shown : IsShownThen m set
  pub holds : IsSome (get set id)

-- where a replica accepted a Remove right after a moment, by which each update that it names was shown, what is shown
-- with the Remove has these updates
abbrev pub RemovedAreWithIt : (before after : GroupMoment) → Type 0
RemovedAreWithIt before after =
    (more : List (ℕ × NodeCall)) (r object : ℕ) (tags : List UpdateId) (s : Histories) →
    after.calls ≡ more ++ (r, Submitted (record { object = object; op = Remove tags })) ∷ before.calls →
    ((tag : UpdateId) → Contains tags tag → WasShown before tag) →
    IsShownThen after s → IsSome (get s (id_to_come before.calls r)) →
    (tag : UpdateId) → Contains tags tag → IsSome (get s tag)

-- ## Adopt-commit

-- the three safety properties, of what participants returned, at whatever moments
pub record IsSafeOver (before after : GroupMoment) : Type 0 where
  -- where one of two commits, both have its value
  pub agree : (q p : ReplicaState) (k : ℕ) (o other : Outcome) → Contains before.states q → Contains after.states p →
      returned_by k q ≡ Some o → returned_by k p ≡ Some other →
      (is_commit o ≡ true → value_of other ≡ value_of o) × (is_commit other ≡ true → value_of o ≡ value_of other)
  -- what is returned was proposed to the object
  pub proposed : (p : ReplicaState) (k : ℕ) (o : Outcome) → Contains after.states p → returned_by k p ≡ Some o →
      (r : ℕ) × Contains after.calls (r, Proposed k (value_of o))
  -- where all proposals to an object have one value, it is committed
  pub unanimous : (p : ReplicaState) (k value : ℕ) (o : Outcome) →
      ((r other : ℕ) → Contains after.calls (r, Proposed k other) → other ≡ value) →
      Contains after.states p → returned_by k p ≡ Some o → o ≡ Commit value

-- what a replica returned it still returns, also after it was started again
abbrev pub OutcomesNeverChange : (before after : GroupMoment) → Type 0
OutcomesNeverChange before after =
    (r : ℕ) (q p : ReplicaState) → slice_get before.states r ≡ Some q → slice_get after.states r ≡ Some p →
    OutcomesStayIn q p

-- ## Questions

-- by equal views objects of one kind under a number answer alike
abbrev pub ViewsAnswerAlike : (before after : GroupMoment) → Type 0
ViewsAnswerAlike before after =
    (q p : ReplicaState) (objects others : List (ℕ × Kind)) (object : ℕ) (query : Query) (a b : Answer) →
    Contains before.states q → Contains after.states p → q.view ≡ p.view →
    kind_at objects object ≡ kind_at others object →
    answer_at (record { view = q.view; objects = objects }) object query ≡ Some a →
    answer_at (record { view = p.view; objects = others }) object query ≡ Some b → a ≡ b

-- ## All of it

pub record MomentsKeepAll (c : Config) (before after : GroupMoment) : Type 0 where
  pub comparable : NotedAreComparable before after
  pub grows : NotedGrow after
  pub one_history : ShownAreOneHistory before after
  pub views : ViewsOnlyGrow before after
  pub largest : ViewsAreLargestThen c after
  pub submitted : ShownWereSubmitted after
  pub own : NotedHoldTheirOwn before after
  pub order : ShownAreInOrder before after
  pub reads : MarksAreCurrent before after
  pub removed : RemovedAreWithIt before after
  pub safe : IsSafeOver before after
  pub outcomes : OutcomesNeverChange before after
  pub answers : ViewsAnswerAlike before after

-- of replicas that are together after some calls, and after these and more
abbrev pub TogetherKeepAll : Type 0
TogetherKeepAll =
    (c : Config) (more calls : List (ℕ × NodeCall)) (before after : List ReplicaState) (letters others : List Letter)
    (was is : List LearntSet) →
    AreTogether c calls before letters was → AreTogether c (more ++ calls) after others is →
    MomentsKeepAll c (record { calls = calls; states = before; learnt = was })
    (record { calls = more ++ calls; states = after; learnt = is })

-- so do nodes of a live group, of which every learning is said
abbrev pub moment_of_group : (calls : List (ℕ × NodeCall)) → LiveGroup → GroupMoment
moment_of_group calls group = record { calls = calls; states = group.replicas; learnt = group.learnt }

abbrev pub LiveGroupsKeepAllOver : Type 0
LiveGroupsKeepAllOver = (c : Config) (more calls : List (ℕ × NodeCall)) (before after : LiveGroup) →
    Reaches c calls before → Reaches c (more ++ calls) after →
    MomentsKeepAll c (moment_of_group calls before) (moment_of_group (more ++ calls) after)

-- ## As a group of live replicas

-- Events that are these calls, one by one: the sets that were noted are some of those that the events learnt, in order,
-- and of all these the group keeps what a world promises, in every instance.
pub record EventsKeepAll (c : Config) (now : GroupMoment) : Type 0 where
  pub events : Past
  pub are : AreEventsOf now.calls events
  pub listed : AreSomeInOrder now.learnt (map learnt_set_of (learnt (trace (live_group_of c) events)))
  pub keeps :
      GroupKeepsAll (live_group_of c) events (learnt (trace (live_group_of c) events)) (views_of now.states)
      (decisions_of c now.states)

abbrev pub TogetherKeepAllOfEvents : Type 0
TogetherKeepAllOfEvents =
    (c : Config) (calls : List (ℕ × NodeCall)) (states : List ReplicaState) (letters : List Letter)
    (noted : List LearntSet) →
    AreTogether c calls states letters noted →
    EventsKeepAll c (record { calls = calls; states = states; learnt = noted })
