use Rattle.std.proofs.Common.{◌∙◌, sym, ap, length}
use Rattle.std.specs.Ordering.{nat_cmp}
use Rattle.std.specs.FinMap as map
use Rattle.std.specs.FinMap.{nat_cmp-IsAntisymmetric}
use Rattle.std.specs.Cmp.{nat_cmp_total}
use Rattle.la_object.proofs.lemmas.Sorted.{entries-from_entries, sorted-keys}
use Rattle.la_orset.proofs.live_tree.LiveTree.len.Goals as goal

pub returns-clause-answer : goal.returns-clause-answer
returns-clause-answer c =
    let es = c.self.inside.by_element.entries in
    c.len.ensures.len
    ∙ ap length
    (sym
    (entries-from_entries nat_cmp_total nat_cmp-IsAntisymmetric es (sorted-keys nat_cmp es c.len.ensures.ordered)))
    ∙ sym (map.len-entries (map.from_entries es)) ∙ ap map.len c.self.view_is
