use Rattle.std.proofs.Common.{◌∙◌, sym}
use Rattle.std.specs.Vec.{vec_items}
use Rattle.la_types.proofs.ElementSets.{no_keys, empty_keys}
use Rattle.la_types.proofs.elements.Elements.is_empty.Goals as goal

pub returns : goal.returns
returns c =
    let keys = c.self.inside.of.keys in (
      λ t. sym c.self.view_is ∙ no_keys vec_items keys (c.is_empty.ensures.0 t),
      λ e. c.is_empty.ensures.1 (empty_keys vec_items keys (c.self.view_is ∙ e)),
    )
