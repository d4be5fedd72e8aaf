use Rattle.std.proofs.Common.{◌∙◌, sym}
use Rattle.std.specs.Vec.{vec_items}
use Rattle.la_types.proofs.KeyEntries.{no_keys, empty_keys}
use Rattle.la_types.proofs.by_key.ByKey.is_empty.Goals as goal

pub returns : goal.returns
returns g c =
    let es = c.self.inside.of.entries in (
      λ t. sym c.self.view_is ∙ no_keys vec_items es (c.is_empty.ensures.0 t),
      λ e. c.is_empty.ensures.1 (empty_keys vec_items es (c.self.view_is ∙ e)),
    )
