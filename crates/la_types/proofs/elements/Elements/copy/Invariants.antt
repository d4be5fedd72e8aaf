use Rattle.std.proofs.Common.{◌≡◌}
use Rattle.std.specs.Vec.{vec_items}
use Rattle.la_types.proofs.ElementSets.{all_inserted}
use Rattle.la_types.proofs.elements.Elements.copy.Given as goal

abbrev pub invariant-loop-element : goal.invariant-loop-element
invariant-loop-element l =
    all_inserted vec_items l.copy l.element-iterator ≡ all_inserted vec_items l.initial.copy l.initial.element-iterator
