use Rattle.std.proofs.Common.{◌≡◌, ◌≤◌, length, take, reverse}
use Rattle.std.specs.Option.{option_copied}
use Rattle.la_set.specs.Links.{items_of}
use Rattle.la_set.proofs.Unmatched.{from}
use Rattle.la_set.proofs.algebra.lacking.Given as goal

abbrev pub invariant-loop-mine : goal.invariant-loop-mine
invariant-loop-mine l = record {
  mine : items_of (option_copied l.mine)
      ≡ take (length (items_of (option_copied l.mine))) (items_of (option_copied l.list));
  theirs : items_of (option_copied l.theirs)
      ≡ take (length (items_of (option_copied l.mine))) (items_of (option_copied l.other));
  within : length (items_of (option_copied l.mine)) ≤ length (items_of (option_copied l.list));
  found : l.lacking.items
      ≡ reverse
      (from (items_of (option_copied l.list)) (items_of (option_copied l.other))
      (length (items_of (option_copied l.mine))));
}

abbrev pub decreases-loop-mine : goal.decreases-loop-mine
decreases-loop-mine l = length (items_of (option_copied l.mine))
