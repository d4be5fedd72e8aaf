use Rattle.std.proofs.Common.{◌≡◌}
use Rattle.std.specs.FinMap as map
use Rattle.std.specs.Ordering.{nat_cmp}
use Rattle.la_orset.proofs.Hashed.{all_put}
use Rattle.la_orset.proofs.live_tree.LiveTree.table.Given as goal

abbrev pub invariant-loop-element : goal.invariant-loop-element
invariant-loop-element l =
    all_put (map.from_entries {R = nat_cmp} l.by_element.entries) l.element-iterator
    ≡ all_put (map.from_entries {R = nat_cmp} l.initial.by_element.entries) l.initial.element-iterator
