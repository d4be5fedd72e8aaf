use Rattle.std.proofs.Common.{◌+◌, sym, ◌∙◌, ap, arith}
use Rattle.std.specs.List.{slice_get}
use Rattle.std.proofs.lemmas.Option.{slice_get_past}
use Rattle.la_set.specs.Histories.{history, numbered}
use Rattle.la_set.specs.Deltas.{over}
use Rattle.la_set.proofs.lemmas.Counting.{count-at}
use Rattle.la_set.proofs.Overs.{over_before, over_before-none, over_before-more, over_before-all, over-place}
use Rattle.la_set.proofs.set.UpdateSet.at_over.Goals as goal

pub overflow_sub-count : goal.overflow_sub-count
overflow_sub-count c =
    omega (
      arith,
      c.requires c.loop-replica.replica,
      c.of-skipped.ensures,
      count-at c.args.self.now c.counts-counts.result
          c.loop-replica.replica _ c.counts-counts.ensures.counts c.of.ensures,
    )

pub loop-replica-init : goal.loop-replica-init
loop-replica-init c = omega (arith, over_before-none c.args.self.now c.args.base)

pub loop-replica-preserved : goal.loop-replica-preserved
loop-replica-preserved c =
    omega (
      arith,
      c.requires c.loop-replica.replica,
      over_before-more c.args.self.now c.args.base c.loop-replica.replica,
      c.loop-replica.invariant,
      c.of-skipped.ensures,
      count-at c.args.self.now c.counts-counts.result
          c.loop-replica.replica _ c.counts-counts.ensures.counts c.of.ensures,
    )

pub returns-then-left-count : goal.returns-then-left-count
returns-then-left-count c =
    let s = c.args.self.now in let r = c.loop-replica.replica in let b = c.args.base in
    c.item_at.ensures
    ∙ ap (λ us. slice_get us (c.of-skipped.result + c.loop-replica.left)) c.history_of.ensures.updates
    ∙ ap (λ n. slice_get (numbered r 1 (history s r)) (n + c.loop-replica.left)) c.of-skipped.ensures
    ∙ sym
    (ap (slice_get (over s b)) c.loop-replica.invariant
    ∙ over-place s b r c.loop-replica.left (omega arith)
    (omega (
      arith,
      c.of-skipped.ensures,
      count-at s c.counts-counts.result r _ c.counts-counts.ensures.counts
          c.of.ensures,
    )))

pub returns : goal.returns
returns c =
    let s = c.args.self.now in let b = c.args.base in
    sym
    (slice_get_past (over s b) c.args.place
    (omega (
      arith,
      c.loop-replica.invariant,
      ap (over_before s b) {x = c.loop-replica.replica} {y = 8} (omega arith),
      over_before-all s b,
    )))
