use Rattle.std.proofs.Common.{arith, refl}
use Rattle.la_io.proofs.Adding.{one_more_byte}
use Rattle.la_io.proofs.Parts.{ends_at, ends_not}
use Rattle.la_io.proofs.taking.first_end.Goals as goal

pub loop-n-preserved : goal.loop-n-preserved
loop-n-preserved c = record {
  within = omega (arith, c.loop-n-test.true);
  one = one_more_byte c.args.bytes.now c.loop-n.n c.loop-n-test.true c.loop-n.invariant.one c.if-bytes-n-eq10.false;
}

pub returns-then-bytes-n-eq10-clause-part : goal.returns-then-bytes-n-eq10-clause-part
returns-then-bytes-n-eq10-clause-part c =
    ends_at c.args.bytes.now c.loop-n.n c.loop-n-test.true c.loop-n.invariant.one c.if-bytes-n-eq10.true

pub returns-clause-part : goal.returns-clause-part
returns-clause-part c =
    ends_not c.args.bytes.now c.loop-n.n _ _ (omega (arith, c.loop-n-test.false)) refl refl c.loop-n.invariant.one
