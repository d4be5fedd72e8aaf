use Rattle.std.proofs.Common.{arith}
use Rattle.la_orset.proofs.Numbers.{gap_none}
use Rattle.la_orset.proofs.rows.all_below.Goals as goal

pub returns-then-len-eq0 : goal.returns-then-len-eq0
returns-then-len-eq0 c = λ t ascending. gap_none c.args.rows.now c.args.number (omega (arith, c.if-len-eq0.true))
