use Rattle.std.proofs.Common.{ap, ◌∙◌}
use Rattle.la_types.specs.KeyMaps.{map_values, map_values-empty, empty-map_values}
use Rattle.la_types.proofs.keyed_objects.KeyedAbsorbs.fresh.Goals as goal

pub returns : goal.returns
returns g c =
    let f = g.T.Absorbs.state in (
      λ t. ap (map_values f) (c.is_empty.ensures.0 t) ∙ map_values-empty f,
      λ e. c.is_empty.ensures.1 (empty-map_values f c.args.self.now.objects e),
    )
