use Rattle.std.proofs.Common.{length, ap, sym, ◌∙◌, arith}
use Rattle.la_types.specs.CounterMapLaws.{none_past}
use Rattle.la_types.specs.CounterMaps.{plus_amount, all_amounts}
use Rattle.la_types.proofs.Kept.{eight_kept, whole}
use Rattle.la_types.proofs.counter_map.CounterState.keep.Goals as goal

pub returns-then-id-ge-REPLICAS-clause-ok : goal.returns-then-id-ge-REPLICAS-clause-ok
returns-then-id-ge-REPLICAS-clause-ok c =
    let long = ap length (sym c.self.view_is) ∙ eight_kept c.self.inside.kept.items in
    sym (none_past c.args.id.replica (record { id = c.args.id; does = c.args.does }) c.args.self.now (omega
    (arith, long, c.if-id-ge-REPLICAS.true)))

pub returns-in_default-clause-error : goal.returns-in_default-clause-error
returns-in_default-clause-error c =
    let total = c.self.invariant.0
    ∙ whole plus_amount (λ n a b. omega arith) 0 c.self.inside.kept.items c.self.invariant.2
    ∙ ap all_amounts c.self.view_is in
    omega (arith, total, c.in_default.ensures, c.amount.ensures)
