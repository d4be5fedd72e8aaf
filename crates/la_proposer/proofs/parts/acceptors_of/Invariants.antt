use Rattle.std.proofs.Common.{◌≡◌, ◌≤◌}
use Rattle.la_proposer.specs.Majority.{how_many}
use Rattle.la_proposer.specs.Tally.{has_counted}
use Rattle.la_proposer.proofs.parts.acceptors_of.Given as goal

abbrev pub invariant-loop-replica : goal.invariant-loop-replica
invariant-loop-replica l = record {
  is : l.acceptors ≡ how_many l.replica (has_counted l.tally);
  few : l.acceptors ≤ l.replica;
}
