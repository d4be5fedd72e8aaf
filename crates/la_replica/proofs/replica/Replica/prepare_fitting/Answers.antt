use Rattle.std.proofs.Common.{IfOk, subst}
use Rattle.la_replica.specs.Prepared.{PreparesReceiptIn}
use Rattle.la_replica.proofs.replica.Replica.prepare_fitting.Goals as goal

pub returns-clause-ok : goal.returns-clause-ok
returns-clause-ok c =
    subst (λ w. IfOk c.prepare_whole.result (PreparesReceiptIn c.args.self.now w)) c.whole.ensures
    c.prepare_whole.ensures.ok
