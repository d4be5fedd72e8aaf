use Rattle.std.proofs.Common.{IfOk, sym, subst}
use Rattle.la_replica.specs.Received.{received_in, IsSeenWithin}
use Rattle.la_replica.specs.Refusals.{TakesMessage}
use Rattle.la_replica.specs.Prepared.{PreparesReceiptIn}
use Rattle.la_replica.proofs.replica.Replica.prepare_parcel.Goals as goal

pub prepare_beyond-requires : goal.prepare_beyond-requires
prepare_beyond-requires c =
    subst (λ b. IsSeenWithin c.args.self.now b c.in_ok-message.message) (sym c.base_of_told-known.ensures)
    c.in_ok-message.ensures.seen

pub returns-clause-ok : goal.returns-clause-ok
returns-clause-ok c =
    let r = c.args.self.now in
    subst (λ m. IfOk c.prepare_beyond.result (PreparesReceiptIn r (received_in r m))) c.in_ok-message.ensures.ok
    c.prepare_beyond.ensures.ok

pub returns-clause-takes : goal.returns-clause-takes
returns-clause-takes c =
    let r = c.args.self.now in
    subst (λ m. IfOk c.prepare_beyond.result (λ _. TakesMessage r m)) c.in_ok-message.ensures.ok
    c.prepare_beyond.ensures.takes
