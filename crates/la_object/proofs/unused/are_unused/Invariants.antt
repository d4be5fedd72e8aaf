use Rattle.std.proofs.Common.{◌≡◌}
use Rattle.std.specs.List.{AllWithin}
use Rattle.la_set.specs.Histories.{empty}
use Rattle.la_object.specs.Shelves.{ShelfState}
use Rattle.la_object.proofs.unused.are_unused.Given as goal

abbrev pub invariant-loop-shelf : goal.invariant-loop-shelf
invariant-loop-shelf g l = AllWithin (λ (s : ShelfState). s.view ≡ empty) l.shelves 0 l.shelf-index
