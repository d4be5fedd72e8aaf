use Rattle.std.proofs.Common.{rules}
use Rattle.la_script.proofs.steps.put_line.Goals as goal

pub returns-in-Done : goal.returns-in-Done
returns-in-Done c = search rules
