use Rattle.std.proofs.Common.{◌∙◌}
use Rattle.la_orset.proofs.Numbers.{searched_has}
use Rattle.la_orset.proofs.rows.Rows.has.Goals as goal

pub returns : goal.returns
returns c =
    c.is_ok.ensures.value
    ∙ searched_has c.args.self.now c.args.number c.search.result c.search.ensures.ascending c.search.ensures.found
    c.search.ensures.absent
