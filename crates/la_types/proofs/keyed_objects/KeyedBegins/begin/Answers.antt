use Rattle.std.proofs.Common.{ap, ◌∙◌}
use Rattle.la_types.specs.KeyMaps.{map_values, map_values-empty}
use Rattle.la_types.proofs.keyed_objects.KeyedBegins.begin.Goals as goal

pub returns : goal.returns
returns g c = ap (map_values g.T.Absorbs.state) c.new.ensures ∙ map_values-empty g.T.Absorbs.state
