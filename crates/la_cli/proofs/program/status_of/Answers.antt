use Rattle.std.proofs.Common.{rules}
use Rattle.la_cli.proofs.program.status_of.Goals as goal

pub returns-in-Script : goal.returns-in-Script
returns-in-Script c = search rules

pub returns-in-Memory : goal.returns-in-Memory
returns-in-Memory c = search rules

pub returns-in-ReadFault : goal.returns-in-ReadFault
returns-in-ReadFault c = search rules
