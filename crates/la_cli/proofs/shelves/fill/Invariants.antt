use Rattle.std.proofs.Common.{◌≡◌, length}
use Rattle.std.specs.Vec.Iter.{into_iter_items, into_iter_len}
use Rattle.la_cli.proofs.Standing.{Shelved}
use Rattle.la_cli.proofs.shelves.fill.Given as goal

abbrev pub invariant-loop-objects : goal.invariant-loop-objects
invariant-loop-objects g l =
    let left = into_iter_items l.objects-iterator in
    Shelved g.B.Replicated.state l.fn.all.items l.yielded left l.shelves.items
    × (into_iter_len l.objects-iterator ≡ length left)
