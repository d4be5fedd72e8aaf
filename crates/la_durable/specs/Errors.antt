-- Refusals of a node, by those of what it calls.
use Rattle.std.specs.Prelude.{◌≡◌, ℕ, length}
use Rattle.la_replica.specs.declared.error.ReplicaError.{ReplicaError}
use Rattle.la_replica.specs.declared.error.ReplicaError.TheVariants as replica
use Rattle.la_node.specs.declared.error.WorldError.{WorldError}
use Rattle.la_node.specs.declared.error.WorldError.TheVariants as world
use Rattle.la_durable.specs.declared.error.NodeError.{NodeError}
use Rattle.la_durable.specs.declared.error.NodeError.TheVariants.{Elsewhere, Unkept, Replica, Proposal, Memory}
use Rattle.la_replica.specs.Refusals.{IsSubmitRefusal}
use Rattle.la_replica.specs.Parcels.{IsParcelRefusal}
use Rattle.la_node.specs.Nodes.{IsProposeRefusal}
use Rattle.la_replica.specs.ReplicaState.{ReplicaState}
use Rattle.la_node.specs.declared.link.Letter.{Letter}
use Rattle.la_wire.specs.declared.calls.Call as code
use Rattle.la_wire.specs.declared.calls.Call.TheVariants as call

abbrev pub by_replica : ReplicaError → NodeError
by_replica replica.Memory = Memory
by_replica e = Replica e

abbrev pub by_proposal : WorldError → NodeError
by_proposal world.Memory = Memory
by_proposal e = Proposal e

abbrev pub IsForMemory : NodeError → Type 0
IsForMemory e = e ≡ Memory

-- ## Which of them a call gets

-- of a replica that refuses so
abbrev pub OfReplica : (ReplicaError → Type 0) → NodeError → Type 0
OfReplica Is (Replica e) = Is e
OfReplica Is Memory = Is replica.Memory
OfReplica Is _ = ⊥

-- of a proposal that is refused so
abbrev pub OfProposal : (WorldError → Type 0) → NodeError → Type 0
OfProposal Is (Proposal e) = Is e
OfProposal Is Memory = Is world.Memory
OfProposal Is _ = ⊥

-- the same of an operation or a parcel that is copied first: memory may run out whatever else fits
abbrev pub OfCopied : (NodeError → Type 0) → NodeError → Type 0
OfCopied Is Memory = Unit {0}
OfCopied Is e = Is e

-- a call that is for this node where this holds
abbrev pub IfHere : (here : Type 0) → (NodeError → Type 0) → NodeError → Type 0
IfHere here Is Elsewhere = ¬ here
IfHere here Is e = here × Is e

-- a call that is never kept
abbrev pub IsNeverKept : NodeError → Type 0
IsNeverKept Unkept = Unit {0}
IsNeverKept _ = ⊥

abbrev pub RefusesSubmission : ReplicaState → (replica : ℕ) → NodeError → Type 0
RefusesSubmission r replica = IfHere (replica ≡ r.own) (OfCopied (OfReplica (IsSubmitRefusal r 0)))

abbrev pub RefusesProposal : ReplicaState → (replica commit : ℕ) → NodeError → Type 0
RefusesProposal r replica commit = IfHere (replica ≡ r.own) (OfProposal (IsProposeRefusal r commit))

abbrev pub RefusesLetter : ReplicaState → Letter → NodeError → Type 0
RefusesLetter r letter =
    IfHere (letter.replicas ≡ length r.votes) (OfCopied (OfReplica (IsParcelRefusal r letter.parcel)))

abbrev pub IsActRefusal : ReplicaState → code.Call → NodeError → Type 0
IsActRefusal r (call.Submit replica object op) e = RefusesSubmission r replica e
IsActRefusal r (call.Decide replica commit value) e = RefusesProposal r replica commit e
IsActRefusal r (call.Ask replica object query) e = IsNeverKept e
IsActRefusal r call.Tick e = IsNeverKept e
IsActRefusal r (call.Known standing) e = IsNeverKept e
IsActRefusal r (call.Receive letter) e = RefusesLetter r letter e
