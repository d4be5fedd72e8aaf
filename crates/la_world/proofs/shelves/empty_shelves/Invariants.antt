use Rattle.std.proofs.Common.{◌≡◌, replicate, []}
use Rattle.la_set.specs.Histories.{empty}
use Rattle.la_world.proofs.shelves.empty_shelves.Given as goal

abbrev pub invariant-loop : goal.invariant-loop
invariant-loop g l = l.shelves.items ≡ replicate l.counter (record { view = empty; objects = [] })
