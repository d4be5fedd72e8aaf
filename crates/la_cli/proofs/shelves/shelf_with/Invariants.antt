use Rattle.std.proofs.Common.{◌≡◌, length}
use Rattle.std.specs.Vec.Iter.{into_iter_items, into_iter_len}
use Rattle.la_cli.proofs.Standing.{Filling}
use Rattle.la_cli.proofs.shelves.shelf_with.Given as goal

abbrev pub invariant-loop-number : goal.invariant-loop-number
invariant-loop-number g l =
    let left = into_iter_items l.number-iterator in
    Filling g.B.Replicated.state l.fn.objects.items l.yielded left l.shelf
    × (into_iter_len l.number-iterator ≡ length left)
