use Rattle.std.proofs.Common.{◌≡◌, ◌++◌}
use Rattle.la_orset.proofs.live_table.LiveTable.elements.Given as goal

abbrev pub invariant-loop-element : goal.invariant-loop-element
invariant-loop-element l = l.elements.items ++ l.element-iterator ≡ l.initial.element-iterator
