use Rattle.std.proofs.Common.{ap, arith, inl, inr, refl}
use Rattle.std.proofs.lemmas.Bool.{cases_eq, false≢true}
use Rattle.la_set.specs.Histories.{count}
use Rattle.la_set.specs.Counts.{count_in}
use Rattle.la_set.proofs.lemmas.Counting.{HasCounts-known, count-at}
use Rattle.la_set.proofs.set.UpdateSet.has_counts.Goals as goal

pub loop-replica-init : goal.loop-replica-init
loop-replica-init c r lt = absurd (omega arith)

pub loop-replica-preserved : goal.loop-replica-preserved
loop-replica-preserved c r lt = elim (cases_eq r c.loop-replica.replica) [
  | inl e ↦ omega (arith, ap (count_in c.args.counts) e, ap (count c.args.self.now) e, c.of.ensures, count-at c.args.self.now c.counts-mine.result c.loop-replica.replica _ c.counts-mine.ensures.counts c.of-in-loop-replica.ensures)
  | inr ne ↦ c.loop-replica.invariant r (omega arith)
]

pub returns-then-of : goal.returns-then-of
returns-then-of c = (
  (λ yes. absurd (false≢true yes)),
  λ all.
      absurd
      (omega (
        arith,
        all c.loop-replica.replica,
        c.if-of.true,
        c.of.ensures,
        count-at c.args.self.now c.counts-mine.result
            c.loop-replica.replica _ c.counts-mine.ensures.counts c.of-in-loop-replica.ensures,
      )),
)

pub returns : goal.returns
returns c =
    ((λ _. HasCounts-known c.args.self.now c.args.counts (λ r lt. c.loop-replica.invariant r (omega arith))), λ _. refl)
