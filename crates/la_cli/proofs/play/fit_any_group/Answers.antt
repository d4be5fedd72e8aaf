use Rattle.std.proofs.Common.{rules}
use Rattle.la_cli.proofs.play.fit_any_group.Goals as goal

pub returns-then-shelves : goal.returns-then-shelves
returns-then-shelves g c = search rules

pub returns-else-shelves : goal.returns-else-shelves
returns-else-shelves g c = search rules
