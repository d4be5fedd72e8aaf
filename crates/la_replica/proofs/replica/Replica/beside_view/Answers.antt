use Rattle.std.proofs.Common.{sym, subst}
use Rattle.la_set.specs.AgreeWithin.{AgreeWithin}
use Rattle.la_set.proofs.lemmas.WithinCounts.{none_agreed}
use Rattle.la_replica.proofs.replica.Replica.beside_view.Goals as goal

pub returns-else-instance-eq0 : goal.returns-else-instance-eq0
returns-else-instance-eq0 c =
    subst (λ b. AgreeWithin b c.args.seen.now c.args.seen.now) (sym c.zero.ensures)
    (none_agreed c.args.seen.now c.args.seen.now)
