use Rattle.std.proofs.Common.{◌≡◌, take}
use Rattle.la_set.specs.Histories.{updates}
use Rattle.la_object.specs.Objects.{kind_of, start, steps, of_object}
use Rattle.la_object.proofs.shelf.Shelf.add.Given as goal

abbrev pub invariant-loop-place : goal.invariant-loop-place
invariant-loop-place g l =
    g.B.Replicated.state l.added
    ≡ steps (start (kind_of (g.B.Replicated.state l.initial.added)))
    (of_object l.number (take l.place (updates l.self-inside.view)))
