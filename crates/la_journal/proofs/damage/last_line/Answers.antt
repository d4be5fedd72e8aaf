use Rattle.std.proofs.Common.{◌≡◌, arith, take, ap}
use Rattle.la_journal.specs.Records.{unended}
use Rattle.la_journal.proofs.LastLines.{end_is, last_is, whole_before, one_back}
use Rattle.la_journal.proofs.damage.last_line.Goals as goal

pub loop-at-preserved : goal.loop-at-preserved
loop-at-preserved c = record {
  within = omega arith;
  none =
      one_back c.args.bytes.now c.loop-at.at (omega arith) c.loop-at.invariant.within c.if-bytes-at-ne10.true
      c.loop-at.invariant.none;
}

pub returns-else-bytes-at-ne10-clause-whole : goal.returns-else-bytes-at-ne10-clause-whole
returns-else-bytes-at-ne10-clause-whole c =
    whole_before c.args.bytes.now c.loop-at.at (omega arith) (omega arith) c.if-bytes-at-ne10.false

pub returns-else-bytes-at-ne10-clause-last : goal.returns-else-bytes-at-ne10-clause-last
returns-else-bytes-at-ne10-clause-last c =
    last_is c.args.bytes.now c.loop-at.at c.loop-at.invariant.within c.requires c.loop-at.invariant.none
    (whole_before c.args.bytes.now c.loop-at.at (omega arith) (omega arith) c.if-bytes-at-ne10.false)

pub returns-else-bytes-at-ne10-clause-end : goal.returns-else-bytes-at-ne10-clause-end
returns-else-bytes-at-ne10-clause-end c =
    end_is c.args.bytes.now c.loop-at.at c.loop-at.invariant.within c.requires

pub returns-after-loop-at-clause-last : goal.returns-after-loop-at-clause-last
returns-after-loop-at-clause-last c =
    let none : c.loop-at.at ≡ 0 = omega arith in
    last_is c.args.bytes.now c.loop-at.at c.loop-at.invariant.within c.requires c.loop-at.invariant.none
    (ap (λ n. unended (take n c.args.bytes.now)) none)

pub returns-after-loop-at-clause-end : goal.returns-after-loop-at-clause-end
returns-after-loop-at-clause-end c =
    end_is c.args.bytes.now c.loop-at.at c.loop-at.invariant.within c.requires
