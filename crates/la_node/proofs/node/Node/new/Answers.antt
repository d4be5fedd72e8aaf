use Rattle.std.proofs.Common.{rules, subst, sym, ◌<◌}
use Rattle.la_replica.specs.ReplicaState.{ReplicaState}
use Rattle.la_node.specs.Nodes.{IsNode, MayStart}
use Rattle.la_node.proofs.Nodes.{start_keeps}
use Rattle.la_node.proofs.node.Node.new.Goals as goal

pub invariant_of-result : goal.invariant_of-result
invariant_of-result g c =
    let may : MayStart c.args.config c.args.shelf = search rules in
    let known : c.args.own < c.args.config.replicas = search rules in
    subst (λ (r : ReplicaState). IsNode (record { replica = r; shelf = c.args.shelf })) (sym c.in_ok-replica.ensures) (start_keeps c.args.config c.args.own c.args.shelf may known)
