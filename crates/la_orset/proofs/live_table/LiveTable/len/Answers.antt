use Rattle.std.proofs.Common.{◌∙◌, ap}
use Rattle.std.specs.FinMap as map
use Rattle.la_orset.proofs.Hashed.{nat_len}
use Rattle.la_orset.proofs.live_table.LiveTable.len.Goals as goal

pub returns-clause-answer : goal.returns-clause-answer
returns-clause-answer c =
    c.len.ensures.len ∙ nat_len c.self.inside.by_element.entries c.len.ensures.unique ∙ ap map.len c.self.view_is
