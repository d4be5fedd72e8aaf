use Rattle.std.proofs.Common.{ℕ, map, ap, ◌∙◌, sym}
use Rattle.std.specs.List.{slice_get}
use Rattle.std.specs.Option.{option_map}
use Rattle.la_object.specs.declared.kind.Kind.{Kind}
use Rattle.la_object.specs.Shelves.{ShelfState}
use Rattle.la_shelf.proofs.lemmas.Rows.{number_at}
use Rattle.la_object.specs.Objects.{meaning}
use Rattle.la_object.proofs.lemmas.Lawful.{lawful}
use Rattle.la_object.proofs.shelf.Shelf.at.Goals as goal

pub returns-in-Some : goal.returns-in-Some
returns-in-Some g c =
    ap (option_map (λ e. e.0)) c.in-Some.ensures.entry
    ∙ sym (number_at meaning lawful g.B.Replicated.state c.self.inside.objects.entries c.args.place)
    ∙ ap (λ (s : ShelfState). slice_get (map (λ (o : ℕ × Kind). o.0) s.objects) c.args.place) c.self.view_is
