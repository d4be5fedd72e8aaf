use Rattle.std.proofs.Common.{◌∙◌, sym, ap, is_some}
use Rattle.std.specs.FinMap as map
use Rattle.la_orset.proofs.Hashed.{nat_found}
use Rattle.la_orset.proofs.live_table.LiveTable.has.Goals as goal

pub returns-clause-answer : goal.returns-clause-answer
returns-clause-answer c =
    c.contains_key.ensures ∙ ap is_some (sym (nat_found c.self.inside.by_element.entries c.args.element))
    ∙ ap (λ m. map.contains_key m c.args.element) c.self.view_is
