use Rattle.std.proofs.Common.{◌≡◌, rules, sym, ◌∙◌, subst}
use Rattle.std.specs.Ordering.{nat_cmp}
use Rattle.std.specs.FinMap as map
use Rattle.la_orset.specs.Index.{IsWhole}
use Rattle.la_orset.proofs.Hashed.{all_put-whole}
use Rattle.la_orset.proofs.live_tree.LiveTree.table.Goals as goal

pub of-requires : goal.of-requires
of-requires c =
    let es = c.self.inside.by_element.entries in
    let whole = all_put-whole es c.iter-element-items.ensures.ordered in
    let same : map.from_entries {R = nat_cmp} c.loop-element.by_element.entries ≡ map.from_entries es =
    search (rules, whole) in
    subst IsWhole (sym same) c.self.invariant

pub returns : goal.returns
returns c =
    let es = c.self.inside.by_element.entries in
    let whole = all_put-whole es c.iter-element-items.ensures.ordered in
    let same : map.from_entries {R = nat_cmp} c.loop-element.by_element.entries ≡ map.from_entries es =
    search (rules, whole) in
    c.of.ensures ∙ same ∙ c.self.view_is
