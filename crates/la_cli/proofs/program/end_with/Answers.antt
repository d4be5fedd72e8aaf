use Rattle.std.proofs.Common.{rules}
use Rattle.la_cli.proofs.program.end_with.Goals as goal

pub returns : goal.returns
returns g c = record { status = search rules; wrote = search rules }
