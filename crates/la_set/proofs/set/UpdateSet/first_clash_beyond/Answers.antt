use Rattle.std.proofs.Common.{arith, sym, subst, inl, inr}
use Rattle.std.proofs.lemmas.Bool.{cases_eq}
use Rattle.la_set.proofs.Agreeing.{both_have}
use Rattle.la_set.proofs.lemmas.Agreements.{AgreeAt, compatible-from, least-from}
use Rattle.la_set.proofs.set.UpdateSet.first_clash_beyond.Goals as goal

pub loop-replica-init : goal.loop-replica-init
loop-replica-init c q lt = absurd (omega arith)

pub differ_at-requires-clause-both : goal.differ_at-requires-clause-both
differ_at-requires-clause-both c =
    both_have c.args.self.now c.args.other.now c.counts.result c.counts-2.result c.min-both.result
    c.counts.ensures.counts c.counts-2.ensures.counts c.min-both.ensures c.loop-replica.replica
    (omega (arith, c.loop-replica-test.true))

pub returns-in-Some : goal.returns-in-Some
returns-in-Some c =
    least-from c.args.self.now c.args.other.now c.loop-replica.replica c.in-Some.place c.loop-replica.invariant
    c.in-Some.ensures.first

pub loop-replica-preserved : goal.loop-replica-preserved
loop-replica-preserved c q lt = elim (cases_eq q c.loop-replica.replica) [
  | inl e ↦ subst (AgreeAt c.args.self.now c.args.other.now) (sym e) c.in_default.ensures.first
  | inr ne ↦ c.loop-replica.invariant q (omega arith)
]

pub returns : goal.returns
returns c = compatible-from c.args.self.now c.args.other.now (λ r lt. c.loop-replica.invariant r (omega arith))
