use Rattle.std.proofs.Common.{◌≡◌, take}
use Rattle.la_set.specs.Histories.{empty}
use Rattle.la_serve.proofs.shelf.shelf_of.Given as goal

-- the first ones stand on the shelf
abbrev pub invariant-loop-number : goal.invariant-loop-number
invariant-loop-number g l = record {
  callable : goal.F-IsAlwaysCallable g l.make;
  view : l.shelf.view ≡ empty;
  objects : l.shelf.objects ≡ take l.number-index l.number-items;
}
