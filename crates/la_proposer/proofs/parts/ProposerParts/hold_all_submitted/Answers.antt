use Rattle.std.proofs.Common.{arith}
use Rattle.std.proofs.lemmas.Bool.{both_ways}
use Rattle.std.proofs.lemmas.Bool.Decides.{same_from_decides, Decides-like, Decides-at}
use Rattle.la_proposer.specs.Resuming.{state_from, is_all_submitted, are_compatible}
use Rattle.la_proposer.proofs.Resuming.{are_compatible-Decides, all_submitted-Decides, begins, begun, not_all}
use Rattle.la_proposer.proofs.parts.ProposerParts.hold_all_submitted.Goals as goal

pub returns : goal.returns
returns c =
    let x = c.args.self.now in let p = state_from x in let u = x.last.updates in let t = x.submissions in
    same_from_decides c.are_compatible.result (is_all_submitted p t)
    (Decides-like c.are_compatible.result
    (λ one. begins x.own c.requires u t (record {
      more = omega (arith, c.count_of.ensures.count, c.count_of-2.ensures.count, c.if-count_of.false);
      alone = c.are_alone.ensures.0 c.if-not-are_alone.false;
      one = one;
    }))
    (λ e. (begun x.own c.requires u t e).one)
    (Decides-at c.are_compatible.result (are_compatible u t) c.are_compatible.ensures (are_compatible-Decides u t)))
    (all_submitted-Decides p t)

pub returns-then-count_of : goal.returns-then-count_of
returns-then-count_of c =
    let x = c.args.self.now in
    not_all (state_from x) x.submissions
    (λ e. omega (
      arith,
      (begun x.own c.requires x.last.updates x.submissions e).more,
      c.count_of.ensures.count,
      c.count_of-2.ensures.count,
      c.if-count_of.true,
    ))

pub returns-then-not-are_alone : goal.returns-then-not-are_alone
returns-then-not-are_alone c =
    let x = c.args.self.now in
    not_all (state_from x) x.submissions
    (λ e.
    both_ways c.are_alone.result c.if-not-are_alone.true
    (c.are_alone.ensures.1 (begun x.own c.requires x.last.updates x.submissions e).alone))
