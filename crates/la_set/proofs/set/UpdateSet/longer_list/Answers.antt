use Rattle.std.proofs.Common.{arith, sym, subst}
use Rattle.la_set.specs.Counts.{within}
use Rattle.la_set.specs.Histories.{updates_of}
use Rattle.la_set.specs.Representation.{IsFront}
use Rattle.la_set.proofs.Growing.{begins-own, begins-other}
use Rattle.la_set.proofs.set.UpdateSet.longer_list.Goals as goal

pub returns-then-of : goal.returns-then-of
returns-then-of c =
    let s = c.args.self.now in let r = c.args.replica in
    subst (IsFront (updates_of (within s c.args.base) r)) (sym c.history_of.ensures.updates)
    (begins-own s c.args.base r)

pub returns-then-count_of : goal.returns-then-count_of
returns-then-count_of c =
    let s = c.args.self.now in let r = c.args.replica in
    subst (IsFront (updates_of (within s c.args.base) r)) (sym c.history_of-then-count_of.ensures.updates)
    (begins-other s c.args.other.now c.args.known c.args.base r c.requires.known.same
    (omega (arith, c.if-of.false, c.of.ensures, c.of-2.ensures)))

pub returns-else-count_of : goal.returns-else-count_of
returns-else-count_of c =
    let s = c.args.self.now in let r = c.args.replica in
    subst (IsFront (updates_of (within s c.args.base) r)) (sym c.history_of-else-count_of.ensures.updates)
    (begins-own s c.args.base r)
