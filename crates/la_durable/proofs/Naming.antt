-- Which refusal a call gets.
use Rattle.la_replica.specs.declared.error.ReplicaError.{ReplicaError}
use Rattle.la_replica.specs.declared.error.ReplicaError.TheVariants as replica
use Rattle.la_node.specs.declared.error.WorldError.{WorldError}
use Rattle.la_node.specs.declared.error.WorldError.TheVariants as world
use Rattle.la_durable.specs.Errors.{by_replica, by_proposal, OfReplica, OfProposal, OfCopied, IfHere}

pub named_by_proposal : (Is : WorldError → Type 0) (here : Type 0) (e : WorldError) → here → Is e
    → IfHere here (OfProposal Is) (by_proposal e)
named_by_proposal Is here world.Memory h is = (h, is)
named_by_proposal Is here world.BadConfig h is = (h, is)
named_by_proposal Is here world.NoSuchReplica h is = (h, is)
named_by_proposal Is here world.Full h is = (h, is)
named_by_proposal Is here world.NoSuchMessage h is = (h, is)
named_by_proposal Is here world.NoSuchCommit h is = (h, is)
named_by_proposal Is here world.AlreadyProposed h is = (h, is)
named_by_proposal Is here world.NoSuchObject h is = (h, is)
named_by_proposal Is here world.TooManyTags h is = (h, is)

pub named_of_copied : (Is : ReplicaError → Type 0) (here : Type 0) (e : ReplicaError) → here → Is e
    → IfHere here (OfCopied (OfReplica Is)) (by_replica e)
named_of_copied Is here replica.Memory h is = (h, tt)
named_of_copied Is here replica.NoSuchReplica h is = (h, is)
named_of_copied Is here replica.NoSuchInstance h is = (h, is)
named_of_copied Is here replica.Full h is = (h, is)
named_of_copied Is here replica.NoBase h is = (h, is)
named_of_copied Is here replica.Gap h is = (h, is)
named_of_copied Is here (replica.Clash id) h is = (h, is)
named_of_copied Is here replica.BallotsSpent h is = (h, is)
