use Rattle.std.proofs.Common.{◌++◌, map, append-nil, ap, sym, ◌∙◌}
use Rattle.std.specs.FinMap as fin
use Rattle.std.specs.Vec.{vec_items}
use Rattle.la_types.proofs.ElementSets.{items_mapped}
use Rattle.la_types.proofs.elements.Elements.all.Goals as goal

pub returns : goal.returns
returns c =
    let keys = c.self.inside.of.keys in
    let none = c.in-None.ensures.steps.0 in
    let items = c.loop-element.all.items in
    c.from.ensures
    ∙ sym (ap (λ rest. items ++ map vec_items rest) none ∙ append-nil items)
    ∙ c.loop-element.invariant
    ∙ ap (map vec_items) (c.into_iter-element-iterator.ensures.into_iter_gives ∙ c.iter-element-items.ensures.rest)
    ∙ sym (items_mapped vec_items keys c.iter-element-items.ensures.ordered)
    ∙ ap (λ s. fin.keys s) c.self.view_is
