use Rattle.std.proofs.Common.{arith}
use Rattle.la_script.proofs.FirstLine.{lines_first}
use Rattle.la_script.proofs.reading.first_line.Goals as goal

pub returns-clause-line : goal.returns-clause-line
returns-clause-line c = grind (arith, lines_first)
