use Rattle.std.proofs.Common.{ap, sym, ◌∙◌}
use Rattle.std.specs.FinMap as map
use Rattle.std.specs.Vec.{vec_items}
use Rattle.la_types.proofs.ElementSets.{len_mapped}
use Rattle.la_types.proofs.elements.Elements.len.Goals as goal

pub returns : goal.returns
returns c =
    c.len.ensures.len ∙ sym (len_mapped vec_items c.self.inside.of.keys c.len.ensures.ordered)
    ∙ ap (λ s. map.len s) c.self.view_is
