-- A group of live replicas over any transport: each takes the step of `la_node`, and receives any message that
-- was ever sent to it: late, again, over another base, or never. A refused call changes nothing, and is none
-- of these.
use Rattle.std.specs.Prelude.{◌≡◌, ℕ, List, [], ◌∷◌, ◌++◌, map, slice_get, slice_set, flat_map, Contains, Option, Some, None}
use Rattle.std.specs.List.{range_with_len}
use Rattle.la_set.specs.Histories.{Histories}
use Rattle.la_set.specs.Inclusion.{AreComparable}
use Rattle.la_replica.specs.declared.out.Said.{Said}
use Rattle.la_replica.specs.declared.message.Message as code
use Rattle.la_replica.specs.Alike.{AreAlike}
use Rattle.la_replica.specs.Whole.{whole_mail}
use Rattle.la_replica.specs.Steps.{learnt_in}
use Rattle.la_replica.specs.ReplicaState.{ReplicaState}
use Rattle.la_node.specs.declared.config.Config.{Config}
use Rattle.la_node.specs.Configs.{IsConfig}
use Rattle.la_node.specs.Calls.{NodeCall, Submitted, Proposed, Received}
use Rattle.la_node.specs.Steps.{Given, node_step, after_calls}
use Rattle.la_node.specs.Nodes.{NodeState}
pub use Rattle.la_node.specs.Nodes.{replicas_of}
use Rattle.la_world.specs.declared.report.Decision.{Decision}
use Rattle.la_world.specs.declared.step.Learnt.{Learnt}
use Rattle.la_world.specs.Groups.{Group, group_of, replicas}
use Rattle.la_world.specs.Told.{told_messages}
use Rattle.la_world.specs.Events.{Event, Past, Submit, Deliver, Decide}
use Rattle.la_world.specs.Playing.{trace}
use Rattle.la_world.specs.Learnings.{learnt}
use Rattle.la_world.specs.StandsFor.{EventsLeadTo}
use Rattle.la_world.specs.Rebased.{IsRetold, AreRetold}
use Rattle.la_world.specs.Calls.{replica_states_at_start, views_of, decisions_at}
use Rattle.la_world.specs.Promises.{GroupKeepsAll}

-- ## Steps

-- a set that a replica said it has learnt in an instance
pub record LearntSet : Type 0 where
  pub instance : ℕ
  pub replica : ℕ
  pub updates : Histories

pub record LiveGroup : Type 0 where
  -- the replicas, from 0 on
  pub replicas : List ReplicaState
  -- all that was sent, in order
  pub sent : List code.Message
  -- all sets that replicas said they learnt, in order
  pub learnt : List LearntSet

-- a call that replica r may be handed, where such messages come: one is for r
abbrev pub IsHeard : (Comes : code.Message → Type 0) → (r : ℕ) → NodeCall → Type 0
IsHeard Comes r (Submitted d) = Unit {0}
IsHeard Comes r (Proposed k value) = Unit {0}
IsHeard Comes r (Received m) = Comes m × (m.to ≡ r)

-- the set that r says it has learnt in an instance
abbrev pub learnt_set : (instance r : ℕ) → Option Histories → List LearntSet
learnt_set i r None = []
learnt_set i r (Some s) = record { instance = i; replica = r; updates = s } ∷ []

-- and by a call
abbrev pub learnt_by_call : (r : ℕ) → NodeCall → Said → List LearntSet
learnt_by_call r (Submitted d) said = []
learnt_by_call r (Proposed k value) said = []
learnt_by_call r (Received m) said = learnt_set m.instance r (learnt_in said)

-- replica r accepts a call, and all the others stay as they were
pub record IsGroupStep (before : LiveGroup) (r : ℕ) (call : NodeCall) (after : LiveGroup) : Type 0 where
  pub replica : ReplicaState
  pub is_at : slice_get before.replicas r ≡ Some replica
  -- a message says what one that was sent says, be it over another base of its set
  pub heard : IsHeard (λ m. IsRetold m before.sent) r call
  pub given : Given
  pub made : ReplicaState
  pub does : node_step replica call ≡ Some (given, made)
  pub replicas : after.replicas ≡ slice_set before.replicas r made
  pub sent : after.sent ≡ before.sent ++ given.mail
  pub learnt : after.learnt ≡ before.learnt ++ learnt_by_call r call given.said

-- a group in which nothing has happened
pub record IsGroupStart (c : Config) (group : LiveGroup) : Type 0 where
  pub config : IsConfig c
  pub replicas : group.replicas ≡ replica_states_at_start c
  pub sent : group.sent ≡ []
  pub learnt : group.learnt ≡ []

-- these calls, the newest first and each of a replica, lead from such a group to this one
unfoldable pub Reaches : Config → (calls : List (ℕ × NodeCall)) → LiveGroup → Type 0
Reaches c [] group = IsGroupStart c group
Reaches c (call ∷ calls) group =
    (before : LiveGroup) × Reaches c calls before × IsGroupStep before call.0 call.1 group

-- ## Events

-- in which nothing is said of shelves
abbrev pub live_group_of : Config → Group
live_group_of c = group_of c []

abbrev pub learnt_set_of : Learnt → LearntSet
learnt_set_of x = record { instance = x.instance; replica = x.replica; updates = x.updates }

-- each part of a group is what the trace of these events says
pub record StandsForEvents (c : Config) (group : LiveGroup) (events : Past) : Type 0 where
  pub config : IsConfig c
  pub led : EventsLeadTo (live_group_of c) events group.replicas (whole_mail group.sent)
  pub told : group.sent ≡ told_messages (replicas (live_group_of c)) (trace (live_group_of c) events)
  pub learnt : group.learnt ≡ map learnt_set_of (learnt (trace (live_group_of c) events))

-- a call of replica r as an event of its group: a message is the delivery of the one with this number, from 0
abbrev pub live_event : (r number : ℕ) → NodeCall → Event
live_event r number (Submitted d) = Submit r d
live_event r number (Proposed k value) = Decide r k value
live_event r number (Received m) = Deliver number

-- these events are these calls, one by one
abbrev pub AreEventsOf : (calls : List (ℕ × NodeCall)) → Past → Type 0
AreEventsOf [] [] = Unit {0}
AreEventsOf (call ∷ calls) (e ∷ events) =
    ((number : ℕ) × (e ≡ live_event call.0 number call.1)) × AreEventsOf calls events
AreEventsOf _ _ = ⊥

-- ## What a program holds

-- a message says the same as one of these, whatever their deltas were made of
abbrev pub IsAmong : code.Message → List code.Message → Type 0
IsAmong m ms = (n : code.Message) × Contains ms n × AreAlike m n

-- nodes, and messages on a network: some calls led to these nodes' replicas, and sent each of the messages, be it
-- with another delta that says the same, or over another base of its set. Others that they sent are lost
pub record IsReached (nodes : List NodeState) (network : List code.Message) : Type 0 where
  pub config : Config
  pub calls : List (ℕ × NodeCall)
  pub group : LiveGroup
  pub reached : Reaches config calls group
  pub replicas : group.replicas ≡ replicas_of nodes
  pub sent : AreRetold network group.sent

abbrev pub AreLive : (nodes : List NodeState) → (network : List code.Message) → Type 0
AreLive nodes network = ∥ IsReached nodes network ∥₁

-- ## Laws

-- a group that some calls lead to stands for these calls' events
abbrev pub LiveGroupsStandForEvents : Type 0
LiveGroupsStandForEvents = (c : Config) (calls : List (ℕ × NodeCall)) (group : LiveGroup) →
    Reaches c calls group → (events : Past) × StandsForEvents c group events × AreEventsOf calls events

-- what replicas returned from adopt-commit objects, by object, and then by replica
abbrev pub decisions_of : Config → List ReplicaState → List Decision
decisions_of c states = flat_map (decisions_at states) (range_with_len 0 c.commits)

-- so it keeps what a world promises
abbrev pub LiveGroupsKeepAll : Type 0
LiveGroupsKeepAll = (c : Config) (calls : List (ℕ × NodeCall)) (group : LiveGroup) →
    Reaches c calls group → (events : Past) × AreEventsOf calls events
    × (let g = live_group_of c in
    GroupKeepsAll g events (learnt (trace g events)) (views_of group.replicas) (decisions_of c group.replicas))

-- any two sets that replicas said they learnt in one instance are comparable
abbrev pub LiveLearntAreComparable : Type 0
LiveLearntAreComparable = (c : Config) (calls : List (ℕ × NodeCall)) (group : LiveGroup) →
    Reaches c calls group → (x y : LearntSet) →
    Contains group.learnt x → Contains group.learnt y → x.instance ≡ y.instance →
    AreComparable x.updates y.updates

-- any two views are: of whatever replicas, before and after more calls
abbrev pub LiveViewsAreComparable : Type 0
LiveViewsAreComparable =
    (c : Config) (more calls : List (ℕ × NodeCall)) (before after : LiveGroup) (m n : ReplicaState) →
    Reaches c calls before → Reaches c (more ++ calls) after →
    Contains before.replicas m → Contains after.replicas n →
    AreComparable m.view n.view

-- ## Laws for programs

abbrev pub AllViewsAreComparable : List NodeState → Type 0
AllViewsAreComparable nodes =
    (m n : NodeState) → Contains nodes m → Contains nodes n →
    AreComparable m.replica.view n.replica.view

abbrev pub LiveNodesAreOneHistory : Type 0
LiveNodesAreOneHistory = (nodes : List NodeState) (network : List code.Message) →
    AreLive nodes network → AllViewsAreComparable nodes

-- nodes as they are made are live, with nothing on the network
abbrev pub NewNodesAreLive : Type 0
NewNodesAreLive = (c : Config) (nodes : List NodeState) → IsConfig c →
    replicas_of nodes ≡ replica_states_at_start c → AreLive nodes []

-- and whatever the network loses, holds twice or brings late, and whatever deltas it makes anew of messages
-- as they are on it
abbrev pub NetworksMayLose : Type 0
NetworksMayLose = (nodes : List NodeState) (network left : List code.Message) →
    AreLive nodes network → ((m : code.Message) → Contains left m → IsAmong m network) →
    AreLive nodes left

-- after a call of node r, with what it gives out on the network, over whatever bases: a message is on the network,
-- and stays there
abbrev pub CallsKeepLive : Type 0
CallsKeepLive =
    (nodes : List NodeState) (network mail : List code.Message) (r : ℕ) (node made : NodeState) (call : NodeCall)
    (given : Given) → AreLive nodes network → slice_get nodes r ≡ Some node → IsHeard (λ m. IsAmong m network) r call →
    node_step node.replica call ≡ Some (given, made.replica) →
    AreRetold mail given.mail → AreLive (slice_set nodes r made) (network ++ mail)

-- after calls of node r whose mail is lost, none or any number of them
abbrev pub UnheardCallsKeepLive : Type 0
UnheardCallsKeepLive =
    (nodes : List NodeState) (network : List code.Message) (r : ℕ) (node made : NodeState) (calls : List NodeCall) →
    AreLive nodes network → slice_get nodes r ≡ Some node →
    ((call : NodeCall) → Contains calls call → IsHeard (λ m. IsAmong m network) r call) →
    after_calls node.replica calls ≡ Some made.replica → AreLive (slice_set nodes r made) network
