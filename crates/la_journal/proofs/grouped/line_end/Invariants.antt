use Rattle.std.proofs.Common.{take}
use Rattle.la_journal.specs.Commits.{HasNoEnd}
use Rattle.la_journal.proofs.grouped.line_end.Given as goal

abbrev pub invariant-loop-n : goal.invariant-loop-n
invariant-loop-n l = HasNoEnd (take l.n l.bytes)
