use Rattle.std.proofs.Common.{◌≡◌, ℕ, rules, map as list_map, sym, ap, ◌∙◌}
use Rattle.std.specs.Ordering.{nat_cmp}
use Rattle.std.specs.Map.{keys_of}
use Rattle.std.specs.FinMap as map
use Rattle.std.specs.FinMap.{nat_cmp-IsAntisymmetric}
use Rattle.std.specs.Cmp.{nat_cmp_total}
use Rattle.la_orset.specs.Index.{TagMap}
use Rattle.la_object.proofs.lemmas.Sorted.{entries-from_entries, sorted-keys}
use Rattle.la_orset.proofs.live_tree.LiveTree.elements.Goals as goal

pub returns-clause-answer : goal.returns-clause-answer
returns-clause-answer c =
    let es = c.self.inside.by_element.entries in
    let whole : map.keys c.args.self.now ≡ keys_of es =
    ap map.keys (sym c.self.view_is)
    ∙ ap (list_map (λ (e : ℕ × TagMap). e.0))
    (entries-from_entries nat_cmp_total nat_cmp-IsAntisymmetric es
    (sorted-keys nat_cmp es c.keys-element-items.ensures.ordered)) in
    search (rules, whole)
