use Rattle.std.proofs.Common.{ap, ◌∙◌}
use Rattle.std.specs.Vec.{vec_items}
use Rattle.la_types.specs.ByteSets.{has_bytes}
use Rattle.la_types.proofs.ElementSets.{has_mapped}
use Rattle.la_types.proofs.elements.Elements.has.Goals as goal

pub returns : goal.returns
returns c =
    c.contains.ensures ∙ has_mapped vec_items c.self.inside.of.keys c.args.element.now
    ∙ ap (λ s. has_bytes s c.args.element.now) c.self.view_is
