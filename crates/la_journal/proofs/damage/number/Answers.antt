use Rattle.std.proofs.Common.{arith, refl, rules}
use Rattle.la_journal.proofs.LastLines.{too_large}
use Rattle.la_journal.proofs.damage.number.Goals as goal

pub returns-in_err-count-clause-none : goal.returns-in_err-count-clause-none
returns-in_err-count-clause-none c _ n is =
    too_large c.loop-b.count _ c.args.bytes.now c.loop-b.b-index n (omega arith) refl c.loop-b.invariant (search rules)
    (c.in_err-count.ensures.none refl) is
