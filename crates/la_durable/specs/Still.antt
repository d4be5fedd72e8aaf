-- Calls that leave a node as it was: its journal need not have their lines.
use Rattle.std.proofs.Common.{◌≡◌, Bool, true, false, Option, Some, None, option_map, option_and_then, length, ◌==◌}
use Rattle.std.proofs.Common.{refl}
use Rattle.std.proofs.Common.{ap}
use Rattle.std.specs.Prelude.{if◌then◌else◌}
use Rattle.std.proofs.lemmas.Bool.{false≢true}
use Rattle.std.proofs.lemmas.Option.{none-some}
use Rattle.la_replica.specs.declared.parcel.Parcel.{Parcel}
use Rattle.la_replica.specs.Parcels.{unwrapped_in}
use Rattle.la_replica.specs.ReplicaState.{ReplicaState}
use Rattle.la_replica.specs.Still.{has_grown, is_still}
use Rattle.la_node.specs.Accepting.{parcel_call, unwraps}
use Rattle.la_node.specs.Calls.{Received}
use Rattle.la_node.specs.Steps.{Given, node_step}
use Rattle.la_node.proofs.lemmas.Still.{still_keeps}
use Rattle.la_wire.specs.Calls.{WireCall, Submit, Decide, Ask, Tick, Receive, Known}
use Rattle.la_wire.specs.CallLines.{named_call}
use Rattle.la_wire.specs.Messages.{WireMessage}
use Rattle.la_durable.specs.CallLines.{CallLine}
use Rattle.la_durable.specs.Nodes.{parcel_of, acts, acts_by, step, leaves_be, answer_to, node_answer_by, node_answers}
use Rattle.la_durable.specs.Nodes.{says_still}

-- a parcel that leaves a replica as it was, where it unwraps
parcel_still : (r : ReplicaState) (p : Parcel) (b : Bool) (made : Given × ReplicaState)
    → option_and_then (node_step r) (if b then Some (Received (unwrapped_in r p)) else None) ≡ Some made
    → is_still (has_grown r made.1 p.instance) made.0.said ≡ true → made.1 ≡ r
parcel_still r p true made is still = still_keeps r made.1 (unwrapped_in r p) made.0 is still
parcel_still r p false made is still = absurd (none-some made is)

message_still : (r : ReplicaState) (m : WireMessage) (b : Bool) (made : Given × ReplicaState)
    → option_and_then (node_step r) (if b then parcel_call r (parcel_of m) else None) ≡ Some made
    → is_still (has_grown r made.1 m.instance) made.0.said ≡ true → made.1 ≡ r
message_still r m true made is still = parcel_still r (parcel_of m) (unwraps r (parcel_of m)) made is still
message_still r m false made is still = absurd (none-some made is)

still_made : (r : ReplicaState) (call : WireCall) (made : Given × ReplicaState) → acts r call ≡ Some made
    → leaves_be r made.1 call made.0 ≡ true → made.1 ≡ r
unfolding acts
still_made r (Submit replica object op) made is still = absurd (false≢true still)
still_made r (Decide replica commit value) made is still = absurd (false≢true still)
still_made r (Ask replica object query) made is still = absurd (false≢true still)
still_made r Tick made is still = absurd (false≢true still)
still_made r (Known standing) made is still = absurd (false≢true still)
still_made r (Receive m) made is still = message_still r m (m.replicas == length r.votes) made is still

pub still_call : (r after : ReplicaState) (call : WireCall) (given : Given) → acts r call ≡ Some (given, after)
    → leaves_be r after call given ≡ true → after ≡ r
still_call r after call given is still = still_made r call (given, after) is still

still_acted : (r : ReplicaState) (call : WireCall) (o : Option (Given × ReplicaState)) → acts r call ≡ o
    → says_still (option_map (answer_to r call) o) ≡ true
    → option_map (λ (made : Given × ReplicaState). made.1) o ≡ Some r
still_acted r call None is still = absurd (false≢true still)
still_acted r call (Some made) is still = ap Some (still_made r call made is still)

still_by : (r : ReplicaState) (o : Option WireCall) → says_still (node_answer_by r o) ≡ true
    → option_map (λ (made : Given × ReplicaState). made.1) (acts_by r o) ≡ Some r
still_by r None still = absurd (false≢true still)
still_by r (Some call) still = still_acted r call (acts r call) refl still

-- so of every line
abbrev pub StillCallsChangeNothing : Type 0
StillCallsChangeNothing = (r : ReplicaState) (c : CallLine) → says_still (node_answers r c) ≡ true → step r c ≡ Some r

pub still_calls : StillCallsChangeNothing
still_calls r c still = still_by r (named_call c.line) still
