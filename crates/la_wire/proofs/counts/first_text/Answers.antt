use Rattle.std.proofs.Common.{sym, ◌∙◌}
use Rattle.la_wire.proofs.CountTexts.{first_found, none_found}
use Rattle.la_wire.proofs.counts.first_text.Goals as goal

pub returns-in-Some : goal.returns-in-Some
returns-in-Some c = first_found c.args.texts.now c.in-Some.end (sym c.in-Some.is ∙ c.comma_in.ensures)

pub returns-in-None : goal.returns-in-None
returns-in-None c = none_found c.args.texts.now (sym c.in-None.is ∙ c.comma_in.ensures)
