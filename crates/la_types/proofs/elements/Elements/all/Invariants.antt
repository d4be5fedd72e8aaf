use Rattle.std.proofs.Common.{◌≡◌, ◌++◌, map}
use Rattle.std.specs.Vec.{vec_items}
use Rattle.la_types.proofs.elements.Elements.all.Given as goal

abbrev pub invariant-loop-element : goal.invariant-loop-element
invariant-loop-element l =
    l.all.items ++ map vec_items l.element-iterator ≡ map vec_items l.initial.element-iterator
