use Rattle.la_shelf.proofs.lemmas.Rows.{found-or-none}
use Rattle.la_object.specs.Objects.{meaning}
use Rattle.la_object.proofs.lemmas.Lawful.{lawful}
use Rattle.la_object.proofs.shelf.place_of.Goals as goal

pub returns-in_default : goal.returns-in_default
returns-in_default g c =
    found-or-none meaning lawful c.args.objects.now.entries c.args.number c.get_index_of.result
    c.get_index_of.ensures.index
    c.get_index_of.ensures.found
