use Rattle.std.proofs.Common.{sym}
use Rattle.la_set.proofs.lemmas.Counting.{count_in-known, count_in-past}
use Rattle.la_set.proofs.counts.Counts.of.Goals as goal

pub returns-then-replica-ge-REPLICAS : goal.returns-then-replica-ge-REPLICAS
returns-then-replica-ge-REPLICAS c = sym (count_in-past c.args.self.now c.args.replica c.if-replica-ge-REPLICAS.true)

pub returns : goal.returns
returns c = sym (count_in-known c.args.self.now c.args.replica c.if-replica-ge-REPLICAS.false)
