use Rattle.std.proofs.Common.{◌≡◌, ◌++◌, length, map, take, drop, reverse}
use Rattle.std.specs.Option.{option_copied}
use Rattle.la_set.specs.Histories.{updates_of}
use Rattle.la_set.specs.Links.{items_of}
use Rattle.la_set.proofs.set.UpdateSet.run.Given as goal

abbrev pub invariant-loop-left : goal.invariant-loop-left
invariant-loop-left l =
    drop l.from (items_of (option_copied l.left)) ++ reverse (map (λ u. u.now) l.run.items)
    ≡ drop l.from (take l.end (updates_of l.self l.replica))

abbrev pub decreases-loop-left : goal.decreases-loop-left
decreases-loop-left l = length (items_of (option_copied l.left))
