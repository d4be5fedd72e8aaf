use Rattle.std.proofs.Common.{ap, refl, ◌∙◌}
use Rattle.std.specs.Vec.{vec_items}
use Rattle.la_types.specs.ByteSets.{without_bytes}
use Rattle.la_types.proofs.ElementSets.{one_removed}
use Rattle.la_types.proofs.elements.Elements.remove.Goals as goal

pub returns : goal.returns
returns c =
    let updates = c.remove.ensures.updates in
    let e = c.args.element.now in
    one_removed vec_items _ (λ x y. refl) c.self.inside.of.keys c.remove.new.self.keys e updates.3 updates.1
    ∙ ap (λ s. without_bytes s e) c.self.view_is
