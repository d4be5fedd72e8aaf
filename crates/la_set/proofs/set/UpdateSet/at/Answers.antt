use Rattle.std.proofs.Common.{sym, ◌∙◌, ap, arith}
use Rattle.std.specs.List.{slice_get}
use Rattle.std.proofs.lemmas.Option.{slice_get_past}
use Rattle.la_set.specs.Histories.{updates}
use Rattle.la_set.proofs.lemmas.Counting.{count-at}
use Rattle.la_set.proofs.lemmas.Places.{count_before, count_before-more, updates_count_before, count_before_none, updates-place}
use Rattle.la_set.proofs.set.UpdateSet.at.Goals as goal

pub loop-replica-init : goal.loop-replica-init
loop-replica-init c = omega (arith, count_before_none c.args.self.now)

pub loop-replica-preserved : goal.loop-replica-preserved
loop-replica-preserved c =
    omega (
      arith,
      count_before-more c.args.self.now c.loop-replica.replica,
      c.loop-replica.invariant,
      count-at c.args.self.now
          c.counts-counts.result c.loop-replica.replica _ c.counts-counts.ensures.counts c.of-count.ensures,
    )

pub returns-then-left-count : goal.returns-then-left-count
returns-then-left-count c =
    let s = c.args.self.now in let r = c.loop-replica.replica in
    c.item_at.ensures
    ∙ ap (λ us. slice_get us c.loop-replica.left) c.history_of.ensures.updates
    ∙ sym
    (ap (slice_get (updates s)) c.loop-replica.invariant
    ∙ updates-place s r c.loop-replica.left (omega arith)
    (omega (arith, count-at s c.counts-counts.result r _ c.counts-counts.ensures.counts c.of-count.ensures)))

pub returns : goal.returns
returns c =
    let s = c.args.self.now in
    sym
    (slice_get_past (updates s) c.args.place
    (omega (
      arith,
      c.loop-replica.invariant,
      ap (count_before s) {x = c.loop-replica.replica} {y = 8} (omega arith),
      updates_count_before s,
    )))
