use Rattle.std.proofs.Common.{◌<◌, length, set, get_or, refl, sym, ◌∙◌, subst, arith, inl, inr}
use Rattle.std.proofs.lemmas.Bool.{cases_eq}
use Rattle.std.proofs.lemmas.List.{length-set, get_or-set_same, get_or-set_other}
use Rattle.la_set.specs.AgreeWithin.{AgreeTo}
use Rattle.la_set.proofs.Agreeing.{both_have, agreement-from}
use Rattle.la_set.proofs.lemmas.Counting.{count_in-known}
use Rattle.la_set.proofs.set.UpdateSet.agreement.Goals as goal

pub loop-replica-init : goal.loop-replica-init
loop-replica-init c = record { eight = refl; each = λ q lt. absurd (omega arith) }

pub agree_to-requires-clause-both : goal.agree_to-requires-clause-both
agree_to-requires-clause-both c =
    both_have c.args.self.now c.args.other.now c.counts.result c.counts-2.result c.min-both.result
    c.counts.ensures.counts c.counts-2.ensures.counts c.min-both.ensures c.loop-replica.replica
    (omega (arith, c.loop-replica-test.true))

pub loop-replica-preserved : goal.loop-replica-preserved
loop-replica-preserved c =
    let s = c.args.self.now in let t = c.args.other.now in let of = c.loop-replica.of in
    let r = c.loop-replica.replica in let n = c.agree_to.result in
    let lt : r < length of = omega (arith, c.loop-replica-test.true, c.loop-replica.invariant.eight) in
    record {
      eight = length-set of r n ∙ c.loop-replica.invariant.eight;
      each = λ q below. elim (cases_eq q r) [
        | inl e ↦
            subst (λ p. AgreeTo s t p (get_or (set of r n) p 0)) (sym e)
            (subst (AgreeTo s t r) (sym (get_or-set_same of r n 0 lt)) c.agree_to.ensures)
        | inr ne ↦
            subst (AgreeTo s t q) (sym (get_or-set_other of r q n 0 ne)) (c.loop-replica.invariant.each q (omega arith))
      ];
    }

pub returns : goal.returns
returns c =
    let s = c.args.self.now in let t = c.args.other.now in
    agreement-from s t (record { of = c.loop-replica.of })
    (λ r lt.
    subst (AgreeTo s t r) (sym (count_in-known (record { of = c.loop-replica.of }) r lt))
    (c.loop-replica.invariant.each r (omega arith)))
