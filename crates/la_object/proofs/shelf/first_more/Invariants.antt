use Rattle.std.proofs.Common.{ℕ, ◌<◌, ◌≤◌}
use Rattle.la_set.specs.Histories.{count}
use Rattle.la_object.proofs.shelf.first_more.Given as goal

abbrev pub invariant-loop-replica : goal.invariant-loop-replica
invariant-loop-replica l = (q : ℕ) → q < l.replica → count l.set q ≤ count l.view q
