use Rattle.std.proofs.Common.{◌≡◌, ◌++◌}
use Rattle.la_orset.proofs.live_tree.LiveTree.elements.Given as goal

abbrev pub invariant-loop-element : goal.invariant-loop-element
invariant-loop-element l = l.elements ++ l.element-iterator ≡ l.initial.element-iterator
