use Rattle.std.proofs.Common.{◌≡◌, rules, ap, ◌∙◌, subst}
use Rattle.std.specs.List.Sorted.{IsPermutation}
use Rattle.std.specs.Map.{keys_of}
use Rattle.std.specs.FinMap as map
use Rattle.la_orset.proofs.Hashed.{nat_sorted}
use Rattle.la_orset.proofs.live_table.LiveTable.elements.Goals as goal

pub returns-clause-answer : goal.returns-clause-answer
returns-clause-answer c =
    let es = c.self.inside.by_element.entries in
    let sorted = c.sort_unstable.new.self.items in
    let whole : c.loop-element.elements.items ≡ keys_of es = search rules in
    let moved = subst (λ xs. IsPermutation xs sorted) whole c.sort_unstable.ensures.permutation in
    c.from.ensures ∙ nat_sorted es sorted c.keys-element-items.ensures.unique moved c.sort_unstable.ensures.sorted
    ∙ ap map.keys c.self.view_is
