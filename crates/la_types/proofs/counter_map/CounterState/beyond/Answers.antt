use Rattle.std.proofs.Common.{fold, ap, ◌∙◌, arith}
use Rattle.std.proofs.lemmas.List.{take_all}
use Rattle.la_types.specs.declared.counter_map.KeptCount.{KeptCount}
use Rattle.la_types.specs.CounterMaps.{with_amount, key_beyond, amount_of, total_kept}
use Rattle.la_types.specs.CounterMapLaws.{amount_swap}
use Rattle.la_types.proofs.Kept.{whole, amount_more}
use Rattle.la_types.proofs.counter_map.CounterState.beyond.Goals as goal

pub overflow_add-sum : goal.overflow_add-sum
overflow_add-sum c =
    let items = c.deref-kept-items.result.now in
    let i = c.loop-kept.kept-index in
    let here = ap (λ (k : KeptCount). amount_of k.does) c.kept-item.is in
    let total = ap total_kept c.deref-kept-items.ensures.value in
    omega (
      arith,
      c.loop-kept.invariant.bound,
      c.beyond.ensures.bound,
      here,
      amount_more items i c.kept-item.result c.loop-kept-test.true,
      total,
      c.self.invariant.0,
      c.self.invariant.1,
    )

pub returns : goal.returns
returns c =
    let key = c.args.key.now in
    let counts = c.args.counts in
    c.loop-kept.invariant.sum
    ∙ ap (fold (with_amount key counts) 0) (take_all c.loop-kept.kept-index c.deref-kept-items.result.now (omega
    arith) ∙ c.deref-kept-items.ensures.value)
    ∙ whole (with_amount key counts) (amount_swap key counts) 0 c.self.inside.kept.items c.self.invariant.2
    ∙ ap (λ s. key_beyond s key counts) c.self.view_is
