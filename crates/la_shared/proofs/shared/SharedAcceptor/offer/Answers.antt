use Rattle.la_shared.specs.History.{accepted_by}
use Rattle.la_set.proofs.lemmas.WithinCounts.{none_agreed}
use Rattle.la_shared.proofs.shared.SharedAcceptor.offer.Goals as goal

pub offer_beyond-requires-clause-agrees : goal.offer_beyond-requires-clause-agrees
offer_beyond-requires-clause-agrees g c κs within =
    rw c.zero.ensures (none_agreed (accepted_by c.args.pass.now.seen) c.args.set.now)
