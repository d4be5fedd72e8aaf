use Rattle.la_set.proofs.Rebuilding.{rebuilt-within, within-zero}
use Rattle.la_set.proofs.laws.rebuilding_keeps_the_base.Goals as goal

pub returns-clause-kept : goal.returns-clause-kept
returns-clause-kept c = rebuilt-within

pub returns-clause-zero : goal.returns-clause-zero
returns-clause-zero c = within-zero
