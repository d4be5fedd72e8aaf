use Rattle.std.proofs.Common.{◌≡◌, refl}
use Rattle.std.proofs.lemmas.List.Elements.{All-replicate}
use Rattle.la_set.specs.Histories.{empty}
use Rattle.la_object.specs.Shelves.{ShelfState}
use Rattle.la_cli.specs.Shelves.{new_shelf, standard_objects}
use Rattle.la_cli.proofs.laws.the_shelves_fit_any_group.Goals as goal

pub returns : goal.returns
returns c = record { eight = refl; unused = All-replicate (λ (s : ShelfState). s.view ≡ empty) 8 (new_shelf standard_objects) refl }
