use Rattle.std.proofs.Common.{◌≡◌, ◌≤◌, length, take}
use Rattle.std.specs.Option.{option_copied}
use Rattle.la_set.specs.Links.{items_of}
use Rattle.la_set.proofs.Walks.{FoundFrom}
use Rattle.la_set.proofs.history.first_difference_from.Given as goal

abbrev pub invariant-loop-left : goal.invariant-loop-left
invariant-loop-left g l = record {
  mine : items_of (option_copied l.mine) ≡ take l.left (items_of (option_copied l.one));
  theirs : items_of (option_copied l.theirs) ≡ take l.left (items_of (option_copied l.other));
  in_mine : l.left ≤ length (items_of (option_copied l.one));
  in_theirs : l.left ≤ length (items_of (option_copied l.other));
  found : FoundFrom (items_of (option_copied l.one)) (items_of (option_copied l.other)) l.left l.found;
}

abbrev pub decreases-loop-left : goal.decreases-loop-left
decreases-loop-left g l = l.left
