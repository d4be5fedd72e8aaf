use Rattle.std.proofs.Common.{ap, arith}
use Rattle.la_set.proofs.lemmas.Counting.{count-at}
use Rattle.la_set.proofs.Overs.{over_before, over_before-none, over_before-more, over_before-all}
use Rattle.la_set.proofs.set.UpdateSet.len_over.Goals as goal

pub overflow_sub-all : goal.overflow_sub-all
overflow_sub-all c =
    omega (
      arith,
      c.requires c.loop-replica.replica,
      count-at c.args.self.now c.counts-counts.result c.loop-replica.replica _
          c.counts-counts.ensures.counts c.of.ensures,
      c.of-in-loop-replica.ensures,
    )

pub loop-replica-init : goal.loop-replica-init
loop-replica-init c = record { so_far = omega (arith, over_before-none c.args.self.now c.args.base); few = omega arith }

pub loop-replica-preserved : goal.loop-replica-preserved
loop-replica-preserved c =
    let s = c.args.self.now in let r = c.loop-replica.replica in
    let many = count-at s c.counts-counts.result r _ c.counts-counts.ensures.counts c.of.ensures in
    record {
      so_far =
          omega
          (arith, over_before-more s c.args.base r, c.loop-replica.invariant.so_far, many, c.of-in-loop-replica.ensures);
      few = omega (arith, c.loop-replica.invariant.few, many, c.counts-counts.ensures.limit r);
    }

pub returns : goal.returns
returns c =
    omega (
      arith,
      c.loop-replica.invariant.so_far,
      ap (over_before c.args.self.now c.args.base) {x = c.loop-replica.replica}
          {y = 8} (omega arith),
      over_before-all c.args.self.now c.args.base,
    )
