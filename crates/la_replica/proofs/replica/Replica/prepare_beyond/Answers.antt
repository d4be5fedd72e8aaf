use Rattle.std.proofs.Common.{◌≡◌, sym, subst, rules}
use Rattle.la_replica.specs.Whole.{Message, lent_message}
use Rattle.la_replica.specs.Received.{received_in, IsKnownWithin}
use Rattle.la_replica.specs.ReplicaState.{InInstance}
use Rattle.la_replica.specs.Refusals.{MayReceive}
use Rattle.la_replica.specs.Prepared.{PreparesReceiptIn}
use Rattle.la_replica.proofs.Known.{known_in}
use Rattle.la_replica.proofs.replica.Replica.prepare_beyond.Goals as goal

pub admit_message-requires-clause-known : goal.admit_message-requires-clause-known
admit_message-requires-clause-known c =
    let r = c.args.self.now in let m = c.args.message.now in
    let same : received_in r m ≡ lent_message c.of-whole.result = search rules in
    subst (λ (w : Message). InInstance r w.instance (λ x. IsKnownWithin x c.base.result w.body)) same
    (subst (λ b. InInstance r m.instance (λ x. IsKnownWithin x b (received_in r m).body)) (sym c.base.ensures)
    (known_in r m (search rules)))

pub returns-clause-ok : goal.returns-clause-ok
returns-clause-ok c =
    let r = c.args.self.now in let prepared = c.in_ok-prepare_as.field-0 in
    let same : lent_message c.of-whole.result ≡ received_in r c.args.message.now = search rules in
    subst (λ w. PreparesReceiptIn r w prepared) same c.in_ok-prepare_as.ensures.ok

pub returns-clause-takes : goal.returns-clause-takes
returns-clause-takes c =
    let r = c.args.self.now in
    let same : lent_message c.of-whole.result ≡ received_in r c.args.message.now = search rules in
    let may = subst (MayReceive r) same c.in_ok-verdict.ensures.received in
    record { stands = c.in_ok-set.ensures.stands; receivable = may.receivable; spares = may.spares }
