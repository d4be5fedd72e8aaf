use Rattle.std.proofs.Common.{refl, sym, ◌∙◌, arith}
use Rattle.la_wire.specs.MessageLines.{used}
use Rattle.la_wire.proofs.CountTexts.{goes_down, stops_at}
use Rattle.la_wire.proofs.counts.used.Goals as goal

pub loop-used-init : goal.loop-used-init
unfolding used
loop-used-init c = record { some = omega arith; few = omega arith; left = refl }

pub loop-used-preserved : goal.loop-used-preserved
loop-used-preserved c = record {
  some = omega (arith, c.loop-used-test.true);
  few = omega (arith, c.loop-used.invariant.few);
  left =
      goes_down c.args.counts c.loop-used.used c.loop-used-test.true (sym c.of.ensures ∙ c.if-of-eq0.true)
      ∙ c.loop-used.invariant.left;
}

pub returns-else-of-eq0-clause-exact : goal.returns-else-of-eq0-clause-exact
returns-else-of-eq0-clause-exact c =
    sym
    (stops_at c.args.counts c.loop-used.used c.loop-used.invariant.some
    (λ more none. c.if-of-eq0.false (c.of.ensures ∙ none)))
    ∙ c.loop-used.invariant.left

pub returns-else-of-eq0-clause-few : goal.returns-else-of-eq0-clause-few
returns-else-of-eq0-clause-few c = c.loop-used.invariant.few

pub returns-after-loop-used-clause-exact : goal.returns-after-loop-used-clause-exact
returns-after-loop-used-clause-exact c =
    sym
    (stops_at c.args.counts c.loop-used.used c.loop-used.invariant.some
    (λ more none. absurd (omega (arith, more, c.loop-used-test.false))))
    ∙ c.loop-used.invariant.left

pub returns-after-loop-used-clause-some : goal.returns-after-loop-used-clause-some
returns-after-loop-used-clause-some c = c.loop-used.invariant.some
