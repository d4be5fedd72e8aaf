use Rattle.std.proofs.Common.{sym, ◌∙◌}
use Rattle.la_types.proofs.ElementSets.{there_again}
use Rattle.la_types.proofs.elements.Elements.insert.Goals as goal

pub returns-then-has-clause-ok : goal.returns-then-has-clause-ok
returns-then-has-clause-ok c =
    there_again c.args.self.now c.args.element.now (sym c.has.ensures ∙ c.if-has.true)
