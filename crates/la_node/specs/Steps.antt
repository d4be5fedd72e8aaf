-- A node's one step: what it gives out for a call that it accepts, and the replica after it.
use Rattle.std.specs.Prelude.{◌≡◌, ◌⊎◌, ℕ, true, List, [], ◌∷◌, ◌++◌, map, fold, Option, Some, None, option_map, option_and_then, if◌then◌else◌}
use Rattle.la_set.specs.declared.counts.Counts.{Counts}
use Rattle.la_set.specs.Counts.{zero_counts}
use Rattle.la_set.specs.Inclusion.{IsSubset}
use Rattle.la_set.specs.ObjectOps.{ObjectOp}
use Rattle.la_commit.specs.declared.outcome.Outcome.{Outcome}
use Rattle.la_commit.specs.Instances.{first_instance}
use Rattle.la_commit.specs.Votes.{first_vote}
use Rattle.la_replica.specs.declared.message.Message as code
use Rattle.la_replica.specs.declared.out.Out as code_out
use Rattle.la_replica.specs.declared.out.Said.{Said}
use Rattle.la_replica.specs.Whole.{Out}
use Rattle.la_replica.specs.Received.{received_in}
use Rattle.la_replica.specs.Bases.{offered_by}
use Rattle.la_replica.specs.ReplicaState.{ReplicaState, submits}
use Rattle.la_replica.specs.Still.{has_grown, is_still}
use Rattle.la_replica.specs.declared.error.ReplicaError.{ReplicaError}
use Rattle.la_replica.specs.declared.error.ReplicaError.TheVariants as replica
use Rattle.la_replica.specs.Refusals.{IsSubmitRefusal, IsReceiptRefusal}
use Rattle.la_node.specs.declared.error.WorldError.{WorldError}
use Rattle.la_node.specs.declared.error.WorldError.TheVariants as world
use Rattle.la_node.specs.declared.done.Done.{Done}
use Rattle.la_node.specs.declared.done.Voted.{Voted}
use Rattle.la_node.specs.declared.node.Received as answered
use Rattle.la_node.specs.Taking.{Taken, without_vote, takes}
use Rattle.la_node.specs.Telling.{message_told}
use Rattle.la_node.specs.Nodes.{IsProposeRefusal, outcome_due}
use Rattle.la_node.specs.Calls.{NodeCall, Submitted, Proposed, Received}
use Rattle.la_node.specs.Accepting.{accepts}

pub record Given : Type 0 where
  -- what the replica did, and with its second vote
  pub said : Said
  pub voted : Option Voted
  -- all that it sends, in order
  pub mail : List code.Message
  -- what it returns from an adopt-commit object, where it does
  pub outcome : Option Outcome

-- ## What the code answers

abbrev pub given_done : Done → Option Outcome → Given
given_done done outcome =
    record { said = done.said; voted = done.voted; mail = done.mail; outcome = outcome }

-- to a message
abbrev pub given_of : answered.Received → Given
given_of received = given_done received.done received.outcome

-- to a submission or a proposal
abbrev pub given_out : code_out.Out → Given
given_out out = record { said = out.said; voted = None; mail = out.mail; outcome = None }

-- to a message that it has received so, with the outcome that is due
abbrev pub given_due : ReplicaState → code.Message → Done → Given
given_due r m done = given_done done (outcome_due m.instance r.own done.said)

-- ## The step

-- what the replica after a step gives out, of a message that offers this
abbrev pub given_after : ReplicaState → (offered : Counts) → Taken → Option Outcome → Given
given_after after offered taken outcome = record {
  said = taken.said;
  voted = taken.voted;
  mail = map (message_told after offered) taken.mail;
  outcome = outcome;
}

abbrev pub of_submission : Out × ReplicaState → Given × ReplicaState
of_submission made = (given_after made.1 zero_counts (without_vote made.0) None, made.1)

abbrev pub of_receipt : ReplicaState → code.Message → Taken × ReplicaState → Given × ReplicaState
of_receipt r m made =
    (given_after made.1 (offered_by (received_in r m)) made.0 (outcome_due m.instance r.own made.0.said), made.1)

-- what an accepted call comes to
unfoldable pub step_given : ReplicaState → NodeCall → Option (Given × ReplicaState)
step_given r (Submitted d) = option_map of_submission (submits r 0 d)
step_given r (Proposed k value) =
    option_map of_submission (submits r (first_instance k) (first_vote k value))
step_given r (Received m) = option_map (of_receipt r m) (takes r (received_in r m))

-- and any call: nothing, where it is refused
abbrev pub node_step : ReplicaState → NodeCall → Option (Given × ReplicaState)
node_step r call = if accepts r call then step_given r call else None

-- ## One call after another

-- the replica after a call
abbrev pub after_call : ReplicaState → NodeCall → Option ReplicaState
after_call r call = option_map (λ (made : Given × ReplicaState). made.1) (node_step r call)

-- and after all of them
abbrev pub after_calls : ReplicaState → List NodeCall → Option ReplicaState
after_calls r calls = fold (λ o call. option_and_then (λ s. after_call s call) o) (Some r) calls

-- where a list leads to a replica, the list with one call more leads to the replica after this call
abbrev pub KeptListsLeadOn : Type 0
KeptListsLeadOn = (r s after : ReplicaState) (calls : List NodeCall) (call : NodeCall) →
    after_calls r calls ≡ Some s → after_call s call ≡ Some after →
    after_calls r (calls ++ call ∷ []) ≡ Some after

-- played again, the first part of a list leads to where it led before: what comes next was accepted
-- there
abbrev pub KeptListsArePlayedAgain : Type 0
KeptListsArePlayedAgain = (r s : ReplicaState) (calls more : List NodeCall) →
    after_calls r calls ≡ Some s → after_calls r (calls ++ more) ≡ after_calls s more

-- no step makes the view smaller
abbrev pub StepViewsGrow : Type 0
StepViewsGrow = (r after : ReplicaState) (call : NodeCall) →
    after_call r call ≡ Some after → IsSubset r.view after.view

-- a message of which something still is said leaves the replica as it was
abbrev pub StillMessagesChangeNothing : Type 0
StillMessagesChangeNothing = (r after : ReplicaState) (m : code.Message) (given : Given) →
    node_step r (Received m) ≡ Some (given, after) →
    is_still (has_grown r after m.instance) given.said ≡ true → after ≡ r

-- where a call is refused it has no step, or there was no memory
abbrev pub IsNoStep : ReplicaState → NodeCall → (lacks_memory : Type 0) → Type 0
IsNoStep r call lacks_memory = lacks_memory ⊎ (node_step r call ≡ None)

-- an update, a proposal and a message
pub record RefusedCallsAreNoSteps : Type 0 where
  pub updates : (r : ReplicaState) (d : ObjectOp) (e : ReplicaError) →
      IsSubmitRefusal r 0 e → IsNoStep r (Submitted d) (e ≡ replica.Memory)
  pub proposals : (r : ReplicaState) (k value : ℕ) (e : WorldError) →
      IsProposeRefusal r k e → IsNoStep r (Proposed k value) (e ≡ world.Memory)
  pub messages : (r : ReplicaState) (m : code.Message) (e : ReplicaError) →
      IsReceiptRefusal r m e → IsNoStep r (Received m) (e ≡ replica.Memory)
