-- Refusals by name, as they are told.
use Rattle.std.specs.Prelude.{ℕ, List, codes}
use Rattle.la_replica.specs.declared.error.ReplicaError.{ReplicaError}
use Rattle.la_replica.specs.declared.error.ReplicaError.TheVariants as replica
use Rattle.la_node.specs.declared.error.WorldError.{WorldError}
use Rattle.la_node.specs.declared.error.WorldError.TheVariants as world
use Rattle.la_durable.specs.declared.error.NodeError.{NodeError}
use Rattle.la_durable.specs.declared.error.NodeError.TheVariants as node

abbrev pub replica_name : ReplicaError → List ℕ
replica_name replica.NoSuchReplica = codes "NoSuchReplica"
replica_name replica.NoSuchInstance = codes "NoSuchInstance"
replica_name replica.Full = codes "Full"
replica_name replica.NoBase = codes "NoBase"
replica_name replica.Gap = codes "Gap"
replica_name (replica.Clash id) = codes "Clash"
replica_name replica.BallotsSpent = codes "BallotsSpent"
replica_name replica.Memory = codes "Memory"

abbrev pub proposal_name : WorldError → List ℕ
proposal_name world.BadConfig = codes "BadConfig"
proposal_name world.NoSuchReplica = codes "NoSuchReplica"
proposal_name world.Full = codes "Full"
proposal_name world.NoSuchMessage = codes "NoSuchMessage"
proposal_name world.NoSuchCommit = codes "NoSuchCommit"
proposal_name world.AlreadyProposed = codes "AlreadyProposed"
proposal_name world.NoSuchObject = codes "NoSuchObject"
proposal_name world.TooManyTags = codes "TooManyTags"
proposal_name world.Memory = codes "Memory"

abbrev pub refusal_name : NodeError → List ℕ
refusal_name node.Elsewhere = codes "Elsewhere"
refusal_name node.Unkept = codes "Unkept"
refusal_name (node.Replica e) = replica_name e
refusal_name (node.Proposal e) = proposal_name e
refusal_name node.Memory = codes "Memory"
