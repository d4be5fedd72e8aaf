use Rattle.std.proofs.Common.{ap, refl, ◌∙◌}
use Rattle.std.specs.Vec.{vec_items}
use Rattle.la_types.specs.ByteSets.{with_bytes}
use Rattle.la_types.proofs.ElementSets.{one_inserted}
use Rattle.la_types.proofs.elements.Elements.insert_new.Goals as goal

pub returns-clause-ok : goal.returns-clause-ok
returns-clause-ok c =
    let updates = c.in_ok-insert.ensures.updates in
    let e = c.args.element.items in
    one_inserted vec_items _ (λ x y. refl) c.self.inside.of.keys c.insert.new.self.keys e updates.3 updates.1
    ∙ ap (λ s. with_bytes s e) c.self.view_is
