use Rattle.std.proofs.Common.{rules}
use Rattle.la_set.proofs.lemmas.Counting.{capped-known, capped-past}
use Rattle.la_set.proofs.counts.Counts.capped.Goals as goal

pub returns-then-replica-ge-REPLICAS : goal.returns-then-replica-ge-REPLICAS
returns-then-replica-ge-REPLICAS c =
    capped-past c.args.self c.args.replica c.args.most (search rules) c.if-replica-ge-REPLICAS.true

pub returns : goal.returns
returns c =
    capped-known c.args.self c.args.replica c.args.most c.min.result (search rules) c.if-replica-ge-REPLICAS.false
    c.min.ensures
