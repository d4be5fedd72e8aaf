use Rattle.std.proofs.Common.{sym, subst}
use Rattle.la_set.specs.AgreeWithin.{AgreeWithin}
use Rattle.la_set.proofs.lemmas.WithinCounts.{none_agreed}
use Rattle.la_set.proofs.set.UpdateSet.with.Goals as goal

pub with_beside-requires : goal.with_beside-requires
with_beside-requires c =
    subst (λ n. AgreeWithin n c.args.self.now c.args.self.now) (sym c.zero.ensures)
    (none_agreed c.args.self.now c.args.self.now)
