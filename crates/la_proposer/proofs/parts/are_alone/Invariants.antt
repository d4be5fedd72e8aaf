use Rattle.std.proofs.Common.{◌≡◌, ◌≢◌, ℕ, ◌<◌}
use Rattle.la_set.specs.Histories.{count}
use Rattle.la_proposer.proofs.parts.are_alone.Given as goal

abbrev pub invariant-loop-replica : goal.invariant-loop-replica
invariant-loop-replica l = (r : ℕ) → r < l.replica → r ≢ l.own → count l.set r ≡ 0
