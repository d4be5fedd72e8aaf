use Rattle.std.proofs.Common.{◌≡◌, map, take}
use Rattle.std.specs.List.{All}
use Rattle.la_shelf.specs.Shelves.{all_absorbed}
use Rattle.la_object.specs.Objects.{meaning}
use Rattle.la_object.specs.Shelves.{states, IsSmall}
use Rattle.la_object.proofs.shelf.absorb_all.Given as goal

abbrev pub invariant-loop-at : goal.invariant-loop-at
invariant-loop-at g l = record {
  some : states g.B.Replicated.state l.objects
      ≡ all_absorbed meaning (states g.B.Replicated.state l.initial.objects) (take l.at (map (λ u. u.now) l.run));
  small : All IsSmall (take l.at (map (λ u. u.now) l.run));
}
