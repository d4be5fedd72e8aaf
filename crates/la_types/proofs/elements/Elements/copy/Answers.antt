use Rattle.std.proofs.Common.{rules}
use Rattle.std.specs.Vec.{vec_items}
use Rattle.la_types.proofs.ElementSets.{all_inserted-empty}
use Rattle.la_types.proofs.elements.Elements.copy.Goals as goal

pub returns : goal.returns
returns c = let whole = all_inserted-empty vec_items c.self.inside.of.keys in search (rules, whole, c.self.view_is)
