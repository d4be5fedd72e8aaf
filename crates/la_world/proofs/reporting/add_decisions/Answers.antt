use Rattle.std.proofs.Common.{rules, ◌≡◌, ◌+◌, ◌<◌, suc, length, List, [], ◌∷◌, ◌++◌, take, slice_get, Some, None, option_map, option_and_then, ap, ap₂, sym, ◌∙◌, append_assoc, arith}
use Rattle.std.specs.Prelude.{filter_map}
use Rattle.std.proofs.lemmas.List.{take-map}
use Rattle.la_commit.proofs.lemmas.Listed.{filter_map-skip, filter_map-more}
use Rattle.la_replica.specs.ReplicaState.{ReplicaState}
use Rattle.la_world.specs.declared.report.Decision.{Decision}
use Rattle.la_world.specs.Outcomes.{decision_of}
use Rattle.la_world.specs.Calls.{decision_by}
use Rattle.la_node.specs.Nodes.{NodeState, replicas_of}
use Rattle.la_world.proofs.Lists.{get_mapped}
use Rattle.la_world.proofs.Worlds.{found_at}
use Rattle.la_world.proofs.reporting.add_decisions.Goals as goal
use Rattle.la_world.proofs.reporting.add_decisions.Goals.{in-Some+in_ok-push, in_default}

pub loop-node-preserved : goal.loop-node-preserved
loop-node-preserved g c =
    let k = c.args.commit in
    let i = c.loop-node.node-index in
    let before = c.args.made.now.items in
    let nodes : List NodeState = c.deref-node-items.result.now in
    let node : NodeState = c.node-item.result in
    let lt : i < length nodes = search rules in
    let states : List ReplicaState = replicas_of nodes in
    let here : ReplicaState = node.replica in
    let at : slice_get states i ≡ Some here =
    get_mapped (λ (n : NodeState). n.replica) nodes i node (found_at nodes i node lt c.node-item.is) in
    let so_far : replicas_of (take i nodes) ≡ take i states = sym (take-map (λ (n : NodeState). n.replica) i nodes) in
    let then : take (i + 1) states ≡ replicas_of (take (i + 1) nodes) =
    take-map (λ (n : NodeState). n.replica) (i + 1) nodes in
    let next : suc i ≡ i + 1 = omega arith in
    elim c.match-outcome.branch [
      | in-Some+in_ok-push w ↦
          let decision : Decision = decision_of k here.own w.in-Some.outcome in
          let given : decision_by k here ≡ Some decision =
          ap (option_map (decision_of k here.own)) (sym c.outcome.ensures ∙ w.in-Some.is) in
          ap (λ (v : _). v.items) w.made-is ∙ w.in_ok-push.ensures.items
          ∙ ap₂ (λ (xs : List Decision) own. xs ++ record { commit = k; replica = own; outcome = w.in-Some.outcome } ∷ []) (c.loop-node.invariant ∙ ap (λ xs. before ++ filter_map (decision_by k) xs) so_far) w.own.ensures
          ∙ append_assoc before (filter_map (decision_by k) (take i states)) (decision ∷ [])
          ∙ ap (λ xs. before ++ xs)
          (sym (filter_map-more (decision_by k) states i decision (ap (option_and_then (decision_by k)) at ∙ given))
          ∙ ap (λ j. filter_map (decision_by k) (take j states)) next ∙ ap (filter_map (decision_by k)) then)
      | in_default w ↦
          let given : decision_by k here ≡ None =
          ap (option_map (decision_of k here.own)) (sym c.outcome.ensures ∙ w.in_default.is) in
          ap (λ (v : _). v.items) w.made-is
          ∙ (c.loop-node.invariant ∙ ap (λ xs. before ++ filter_map (decision_by k) xs) so_far)
          ∙ ap (λ xs. before ++ xs)
          (sym (filter_map-skip (decision_by k) states i (ap (option_and_then (decision_by k)) at ∙ given))
          ∙ ap (λ j. filter_map (decision_by k) (take j states)) next ∙ ap (filter_map (decision_by k)) then)
    ]
