-- Submissions under a number: each counts once, however often it is asked for.
use Rattle.std.specs.Prelude.{◌≡◌, ◌≢◌, ◌⊎◌, ℕ, ◌+◌, List, [], slice_get, Option, Some, None}
use Rattle.la_set.specs.ObjectOps.{ObjectOp}
use Rattle.la_set.specs.Histories.{object_op_number}
use Rattle.la_proposer.specs.Inputs.{all_submitted}
use Rattle.la_replica.specs.declared.instance.Instance.{Instance}
use Rattle.la_replica.specs.ReplicaState.{ReplicaState}
use Rattle.la_wire.specs.Calls.{Submit, Decide}
use Rattle.la_wire.specs.Writable.{IsCall}
use Rattle.la_durable.specs.Errors.{RefusesSubmission, RefusesProposal}
use Rattle.la_durable.specs.declared.error.NodeError.{NodeError}
use Rattle.la_embed.specs.Journals.{IsRefusedOver}
use Rattle.la_embed.specs.declared.error.NumberError.{NumberError}
use Rattle.la_embed.specs.declared.error.NumberError.TheVariants.{Stale, Gap, Node}
use Rattle.la_embed.specs.Hosts.{HostState, TakesCall, submitted_by}

abbrev pub inputs_of : Option Instance → List ObjectOp
inputs_of None = []
inputs_of (Some x) = all_submitted x.proposer

-- what a replica has submitted under a number, from 1 on
abbrev pub submitted_as : ReplicaState → (number : ℕ) → Option ObjectOp
submitted_as kept number = object_op_number (inputs_of (slice_get kept.instances 0)) number

-- under the next number it is submitted; under one that has it nothing changes
abbrev pub SubmitsUnder : HostState → (number : ℕ) → ObjectOp → HostState → Type 0
SubmitsUnder before number d after =
    ((number ≡ submitted_by before + 1)
    × TakesCall before before.links (Submit before.kept.own d.object d.op) after)
    ⊎ ((number ≢ submitted_by before + 1) × (submitted_as before.kept number ≡ Some d) × (after ≡ before))

-- why a program's own call is not taken
abbrev pub RefusesToSubmit : HostState → ObjectOp → NodeError → Type 0
RefusesToSubmit before d =
    IsRefusedOver before.journal (IsCall (Submit before.kept.own d.object d.op) → ⊥)
    (RefusesSubmission before.kept before.kept.own)

abbrev pub RefusesToPropose : HostState → (commit value : ℕ) → NodeError → Type 0
RefusesToPropose before commit value =
    IsRefusedOver before.journal (IsCall (Decide before.kept.own commit value) → ⊥)
    (RefusesProposal before.kept before.kept.own commit)

-- this was not submitted under the number: another was, or none
abbrev pub IsNotSubmitted : ReplicaState → (number : ℕ) → ObjectOp → NumberError → Type 0
IsNotSubmitted kept number d Stale = (other : ObjectOp) × (submitted_as kept number ≡ Some other) × (other ≢ d)
IsNotSubmitted kept number d Gap = submitted_as kept number ≡ None
IsNotSubmitted kept number d (Node e) = ⊥

-- under any other than the next it is refused
abbrev pub IsNumberRefusal : HostState → (number : ℕ) → ObjectOp → NumberError → Type 0
IsNumberRefusal before number d Stale =
    (number ≢ submitted_by before + 1) × IsNotSubmitted before.kept number d Stale
IsNumberRefusal before number d Gap = (number ≢ submitted_by before + 1) × IsNotSubmitted before.kept number d Gap
IsNumberRefusal before number d (Node e) =
    (number ≡ submitted_by before + 1) × RefusesToSubmit before d e
