use Rattle.std.proofs.Common.{sym, subst}
use Rattle.la_set.specs.AgreeWithin.{AgreeWithin}
use Rattle.la_set.proofs.lemmas.WithinCounts.{none_agreed}
use Rattle.la_replica.proofs.parcel.Parcel.over.Goals as goal

pub over_beside-requires : goal.over_beside-requires
over_beside-requires c =
    subst (λ b. AgreeWithin b c.args.set.now c.args.set.now) (sym c.zero.ensures)
    (none_agreed c.args.set.now c.args.set.now)
