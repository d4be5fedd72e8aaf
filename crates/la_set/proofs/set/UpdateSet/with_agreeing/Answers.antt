use Rattle.std.proofs.Common.{sym, subst}
use Rattle.la_set.specs.AgreeWithin.{AgreeWithin}
use Rattle.la_set.proofs.lemmas.WithinCounts.{none_agreed}
use Rattle.la_set.proofs.set.UpdateSet.with_agreeing.Goals as goal

pub longer_lists-requires-clause-known : goal.longer_lists-requires-clause-known
longer_lists-requires-clause-known c =
    subst (λ n. AgreeWithin n c.args.self.now c.args.self.now) (sym c.zero.ensures)
    (none_agreed c.args.self.now c.args.self.now)
