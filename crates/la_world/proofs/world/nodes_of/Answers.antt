use Rattle.std.proofs.Common.{◌≡◌, ◌++◌, length, map, ap, sym, ◌∙◌, arith, append-nil}
use Rattle.std.specs.List.{range_with_len}
use Rattle.std.specs.Vec.Iter.{into_iter_items}
use Rattle.la_proposer.specs.Majority.{votes_of}
use Rattle.la_replica.specs.ReplicaState.{start}
use Rattle.la_node.specs.Nodes.{shelves_of}
use Rattle.la_world.proofs.WorldNodes.{none_left, replicas_more, shelves_more}
use Rattle.la_world.proofs.world.nodes_of.Goals as goal

pub loop-shelf-preserved : goal.loop-shelf-preserved
loop-shelf-preserved g c =
    record {
      replicas =
          replicas_more c.args.config c.loop-shelf.own c.loop-shelf.nodes.items _ c.in-Ok.node c.in-Some.shelf
          c.in-Ok.ensures.start c.in_ok-push.ensures.items c.loop-shelf.invariant.replicas;
      shelves =
          shelves_more c.args.config c.loop-shelf.own c.loop-shelf.nodes.items _ c.in-Ok.node c.in-Some.shelf
          c.in-Ok.ensures.start c.in_ok-push.ensures.items _ _ _ c.in-Some.ensures.steps.0
          c.loop-shelf.invariant.shelves;
      own = omega (arith, c.loop-shelf.invariant.own, ap length c.in-Some.ensures.steps.0);
    }

pub returns-clause-replicas : goal.returns-clause-replicas
returns-clause-replicas g c =
    let config = c.args.config in
    let left = into_iter_items c.loop-shelf.shelf-iterator in
    let none : length left ≡ 0 = omega (arith, c.in-None.ensures.steps.0, c.loop-shelf.shelf-iterator.rest.ok.0) in
    let all : c.loop-shelf.own ≡ length (votes_of config.votes) =
    omega (arith, none, c.loop-shelf.invariant.own, c.requires.one_each, c.requires.config.group.replicas) in
    c.loop-shelf.invariant.replicas
    ∙ ap (λ k. map (λ r. start (votes_of config.votes) r config.cap config.commits) (range_with_len 0 k)) all

pub returns-clause-shelves : goal.returns-clause-shelves
returns-clause-shelves g c =
    let left = into_iter_items c.loop-shelf.shelf-iterator in
    let none : length left ≡ 0 = omega (arith, c.in-None.ensures.steps.0, c.loop-shelf.shelf-iterator.rest.ok.0) in
    let mine = shelves_of c.loop-shelf.nodes.items in
    sym (append-nil mine) ∙ ap (λ ss. mine ++ ss) (sym (none_left left none)) ∙ c.loop-shelf.invariant.shelves
