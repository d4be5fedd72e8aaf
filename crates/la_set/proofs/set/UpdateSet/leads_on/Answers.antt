use Rattle.std.proofs.Common.{ap, sym, ◌∙◌, take, arith}
use Rattle.std.proofs.lemmas.Bool.{false≢true}
use Rattle.std.proofs.lemmas.List.{length-set}
use Rattle.la_set.specs.Histories.{count}
use Rattle.la_set.specs.Counts.{count_in, within}
use Rattle.la_set.specs.Deltas.{pushed}
use Rattle.la_set.proofs.lemmas.Counting.{count-within}
use Rattle.la_set.proofs.Pushing.{next_at, next_more, pushed_more, pushed-limit}
use Rattle.la_set.proofs.Growing.{counts-push}
use Rattle.la_set.proofs.set.UpdateSet.leads_on.Goals.{then-replica-ge-REPLICAS-via-then-replica-ge-REPLICAS, then-replica-ge-REPLICAS-via-else-replica-ge-REPLICAS+then-number-gt-MAX_NUMBER}
use Rattle.la_set.proofs.set.UpdateSet.leads_on.Goals as goal

pub loop-place-init : goal.loop-place-init
loop-place-init c =
    let s = c.args.self.now in let base = c.args.delta.now.base in
    record {
      eight = c.numbers-counts.ensures.eight;
      counts =
          λ r lt.
          c.numbers-counts.ensures.each r lt ∙ ap (λ b. count_in b r) c.base.ensures
          ∙ sym (count-within s base c.requires r);
      next = tt;
    }

pub returns-then-replica-ge-REPLICAS : goal.returns-then-replica-ge-REPLICAS
returns-then-replica-ge-REPLICAS c = (
  (λ yes. absurd (false≢true yes)),
  λ all.
      let next =
      next_at c.args.delta.now.more (within c.args.self.now c.args.delta.now.base) c.loop-place.place
      c.item.result.now c.item.ensures all in
      elim c.then-replica-ge-REPLICAS.branch [
        | then-replica-ge-REPLICAS-via-then-replica-ge-REPLICAS w ↦ absurd (omega (arith, w.if-replica-ge-REPLICAS.true, next.known))
        | then-replica-ge-REPLICAS-via-else-replica-ge-REPLICAS+then-number-gt-MAX_NUMBER w ↦ absurd (omega (arith, w.if-number-gt-MAX_NUMBER.true, next.within))
      ],
)

pub overflow_add-counts : goal.overflow_add-counts
overflow_add-counts c =
    let s = c.args.self.now in let base = c.args.delta.now.base in let r = c.item.result.now.id.replica in
    omega (
      arith,
      c.loop-place.invariant.counts r (omega arith),
      pushed-limit (take c.loop-place.place c.args.delta.now.more) (within s base) c.loop-place.invariant.next
          (λ q. omega (arith, count-within s base c.requires q, c.requires q, c.allocator.ensures q)) r,
    )

pub returns-then-number-counts : goal.returns-then-number-counts
returns-then-number-counts c = (
  (λ yes. absurd (false≢true yes)),
  λ all.
      let next =
      next_at c.args.delta.now.more (within c.args.self.now c.args.delta.now.base) c.loop-place.place
      c.item.result.now c.item.ensures all in
      absurd
      (c.if-number-counts.true
      (omega (arith, next.next, c.loop-place.invariant.counts c.item.result.now.id.replica next.known))),
)

pub loop-place-preserved : goal.loop-place-preserved
loop-place-preserved c =
    let us =
    c.args.delta.now.more in let w = within c.args.self.now c.args.delta.now.base in let k = c.loop-place.place in let
    u = c.item.result.now in
    record {
      eight = length-set c.loop-place.counts u.id.replica u.id.number ∙ c.loop-place.invariant.eight;
      counts = λ r lt.
          counts-push (pushed w (take k us)) u c.loop-place.counts
          (record { known = omega arith; next = omega (arith, c.if-number-counts.false, c.loop-place.invariant.counts u.id.replica (omega arith)); within = omega arith })
          c.loop-place.invariant.eight c.loop-place.invariant.counts r lt
          ∙ ap (λ s. count s r) (pushed_more us w k u c.item.ensures);
      next = next_more us w k u c.item.ensures c.loop-place.invariant.next
          (record { known = omega arith; next = omega (arith, c.if-number-counts.false, c.loop-place.invariant.counts u.id.replica (omega arith)); within = omega arith });
    }
