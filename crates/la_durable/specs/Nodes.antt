-- A node as a machine: what it keeps is its replica, and what it makes of a line.
use Rattle.std.specs.Prelude.{◌≡◌, ◌==◌, Bool, false, List, [], length, Option, Some, None, option_map, option_and_then}
use Rattle.std.specs.Prelude.{if◌then◌else◌}
use Rattle.la_set.specs.declared.counts.Counts.{Counts}
use Rattle.la_set.specs.declared.update.Update.{Update}
use Rattle.la_set.specs.Deltas.{DeltaState}
use Rattle.la_set.specs.Histories.{empty}
use Rattle.la_set.specs.Inclusion.{IsSubset}
use Rattle.la_proposer.specs.ProposerState.{op_on}
use Rattle.la_object.specs.Shelves.{ShelfState}
use Rattle.la_replica.specs.declared.parcel.Parcel.{Parcel}
use Rattle.la_replica.specs.declared.parcel.Content.{Content}
use Rattle.la_replica.specs.declared.parcel.Content.TheVariants as content
use Rattle.la_replica.specs.ReplicaState.{ReplicaState}
use Rattle.la_replica.specs.Still.{has_grown, is_still}
use Rattle.la_node.specs.Calls.{NodeCall, Submitted, Proposed}
use Rattle.la_node.specs.Accepting.{parcel_call}
use Rattle.la_node.specs.Steps.{Given, given_of, node_step}
use Rattle.la_wire.specs.Messages.{WireMessage, WireBody, Offer, Yes, No, Tell}
use Rattle.la_wire.specs.Calls.{WireCall, Submit, Decide, Ask, Tick, Receive, Known}
use Rattle.la_wire.specs.CallLines.{named_call}
use Rattle.la_durable.specs.declared.machine.NodeAnswer.{NodeAnswer}
use Rattle.la_durable.specs.declared.machine.NodeMachine.{NodeMachine}
use Rattle.la_durable.specs.CallLines.{CallLine}

-- what a machine keeps
abbrev pub kept_by : NodeMachine → ReplicaState
kept_by m = m.node.replica

-- a shelf without objects
abbrev pub empty_shelf : ShelfState
empty_shelf = record { view = empty; objects = [] }

-- ## A call of a line, as this node takes it

-- a parcel that says this: its delta is a list's
abbrev pub listed_over : Counts → List Update → DeltaState
listed_over base more = record { base = base; more = more; made_of = None }

abbrev pub content_of : WireBody → Content
content_of (Offer base more) = content.Offer (listed_over base more)
content_of Yes = content.Yes
content_of (No base more) = content.No (listed_over base more)
content_of (Tell base more) = content.Tell (listed_over base more)

abbrev pub parcel_of : WireMessage → Parcel
parcel_of m = record {
  instance = m.instance;
  from = m.from;
  to = m.to;
  ballot = m.ballot;
  content = content_of m.body;
}

-- a call as a node of this replica takes it: not one that is for another replica or group, or changes nothing, or tells
-- a set that stands for nothing over its view
abbrev pub node_call : ReplicaState → WireCall → Option NodeCall
node_call r (Submit replica object op) = if replica == r.own then Some (Submitted (op_on object op)) else None
node_call r (Decide replica commit value) = if replica == r.own then Some (Proposed commit value) else None
node_call r (Ask replica object query) = None
node_call r Tick = None
node_call r (Known standing) = None
node_call r (Receive m) = if m.replicas == length r.votes then parcel_call r (parcel_of m) else None

-- ## A step

-- what a node makes of a call, where it accepts it
unfoldable pub acts : ReplicaState → WireCall → Option (Given × ReplicaState)
acts r call = option_and_then (node_step r) (node_call r call)

abbrev pub acts_by : ReplicaState → Option WireCall → Option (Given × ReplicaState)
acts_by r None = None
acts_by r (Some call) = acts r call

-- whether what was given out for a call, and how much is accepted, shows that the call left the replica as it was
abbrev pub leaves_be : (before after : ReplicaState) → WireCall → Given → Bool
leaves_be before after (Submit replica object op) given = false
leaves_be before after (Decide replica commit value) given = false
leaves_be before after (Ask replica object query) given = false
leaves_be before after Tick given = false
leaves_be before after (Known standing) given = false
leaves_be before after (Receive m) given = is_still (has_grown before after m.instance) given.said

-- what a call is answered: what is given out, and whether the replica is as it was
pub record NodeAnswered : Type 0 where
  pub given : Given
  pub still : Bool

abbrev pub node_answer_of : NodeAnswer → NodeAnswered
node_answer_of a = record { given = given_of a.received; still = a.still }

abbrev pub answer_to : ReplicaState → WireCall → Given × ReplicaState → NodeAnswered
answer_to r call made = record { given = made.0; still = leaves_be r made.1 call made.0 }

abbrev pub node_answer_by : ReplicaState → Option WireCall → Option NodeAnswered
node_answer_by r None = None
node_answer_by r (Some call) = option_map (answer_to r call) (acts r call)

abbrev pub says_still : Option NodeAnswered → Bool
says_still None = false
says_still (Some answer) = answer.still

abbrev pub step : ReplicaState → CallLine → Option ReplicaState
step r c = option_map (λ (made : Given × ReplicaState). made.1) (acts_by r (named_call c.line))

-- and what it answers
abbrev pub node_answers : ReplicaState → CallLine → Option NodeAnswered
node_answers r c = node_answer_by r (named_call c.line)

-- no step makes the view smaller
abbrev pub LinesGrowViews : Type 0
LinesGrowViews =
    (before after : ReplicaState) (c : CallLine) → step before c ≡ Some after → IsSubset before.view after.view
