use Rattle.std.proofs.Common.{fold, ap, ◌∙◌, arith}
use Rattle.std.proofs.lemmas.List.{take_all}
use Rattle.la_set.specs.Counts.{zero_counts}
use Rattle.la_types.specs.CounterMaps.{with_seen, key_seen}
use Rattle.la_types.specs.CounterMapLaws.{seen_swap}
use Rattle.la_types.proofs.Kept.{whole}
use Rattle.la_types.proofs.counter_map.CounterState.seen.Goals as goal

pub returns : goal.returns
returns c =
    let key = c.args.key.now in
    c.loop-kept.invariant
    ∙ ap (fold (with_seen key) zero_counts) (take_all c.loop-kept.kept-index c.deref-kept-items.result.now (omega
    arith) ∙ c.deref-kept-items.ensures.value)
    ∙ whole (with_seen key) (seen_swap key) zero_counts c.self.inside.kept.items c.self.invariant.2
    ∙ ap (λ s. key_seen s key) c.self.view_is
