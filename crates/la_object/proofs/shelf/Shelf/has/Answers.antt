use Rattle.std.proofs.Common.{is_some, ap, ◌∙◌}
use Rattle.la_object.specs.Shelves.{ShelfState, kind_at}
use Rattle.la_shelf.proofs.lemmas.Rows.{is_some-kind_at}
use Rattle.la_object.specs.Objects.{meaning}
use Rattle.la_object.proofs.lemmas.Lawful.{lawful}
use Rattle.la_object.proofs.shelf.Shelf.has.Goals as goal

pub returns : goal.returns
returns g c =
    c.contains_key.ensures
    ∙ is_some-kind_at meaning lawful g.B.Replicated.state c.args.number c.self.inside.objects.entries
    ∙ ap (λ (s : ShelfState). is_some (kind_at s.objects c.args.number)) c.self.view_is
