use Rattle.std.proofs.Common.{◌∙◌, sym, ap, is_some}
use Rattle.std.specs.FinMap as map
use Rattle.std.specs.Cmp.{nat_cmp_total}
use Rattle.la_object.proofs.lemmas.Sorted.{get-lookup}
use Rattle.la_orset.proofs.live_tree.LiveTree.has.Goals as goal

pub returns-clause-answer : goal.returns-clause-answer
returns-clause-answer c =
    c.contains_key.ensures ∙ ap is_some (sym (get-lookup nat_cmp_total c.self.inside.by_element.entries c.args.element))
    ∙ ap (λ m. map.contains_key m c.args.element) c.self.view_is
