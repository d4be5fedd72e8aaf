use Rattle.std.proofs.Common.{◌≡◌, ◌+◌, ◌++◌, length, map}
use Rattle.std.specs.Prelude.{vec_items}
use Rattle.std.specs.List.{range_with_len}
use Rattle.std.specs.Vec.Iter.{into_iter_items}
use Rattle.la_proposer.specs.Majority.{votes_of}
use Rattle.la_replica.specs.ReplicaState.{start}
use Rattle.la_node.specs.Nodes.{replicas_of, shelves_of}
use Rattle.la_world.proofs.world.nodes_of.Given as goal

abbrev pub invariant-loop-shelf : goal.invariant-loop-shelf
invariant-loop-shelf g l = record {
  replicas : replicas_of l.nodes.items
      ≡ map (λ r. start (votes_of l.fn.config.votes) r l.fn.config.cap l.fn.config.commits) (range_with_len 0 l.own);
  shelves : shelves_of l.nodes.items ++ into_iter_items l.shelf-iterator ≡ vec_items l.fn.shelves;
  own : l.own + length (into_iter_items l.shelf-iterator) ≡ length (vec_items l.fn.shelves);
}
