use Rattle.std.proofs.Common.{[], ◌++◌, None, get_or, ap, sym, ◌∙◌}
use Rattle.std.specs.List.{cons_option}
use Rattle.la_types.specs.Multis.{beyond_seen}
use Rattle.la_types.proofs.MultiBytes.{range_filter_more}
use Rattle.la_types.proofs.multi.MultiRegisterAbsorbs.ask.Goals as goal

pub loop-replica-preserved : goal.loop-replica-preserved
loop-replica-preserved c =
    let s = c.args.self.now.state in
    let r = c.loop-replica.replica in
    c.in_ok-put_unseen.ensures
    ∙ ap (λ vs. vs ++ cons_option (beyond_seen s.seen r (get_or s.last r None)) []) c.loop-replica.invariant
    ∙ sym (range_filter_more (λ q. beyond_seen s.seen q (get_or s.last q None)) r)
