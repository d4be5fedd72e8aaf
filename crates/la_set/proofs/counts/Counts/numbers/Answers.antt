use Rattle.std.proofs.Common.{sym}
use Rattle.la_set.proofs.lemmas.Counting.{count_in-known}
use Rattle.la_set.proofs.counts.Counts.numbers.Goals as goal

pub returns-clause-each : goal.returns-clause-each
returns-clause-each c r lt = sym (count_in-known c.args.self.now r lt)
