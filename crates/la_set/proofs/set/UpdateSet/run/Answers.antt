use Rattle.std.proofs.Common.{ap, ◌∙◌, map, length, min, ◌+◌, arith}
use Rattle.la_set.specs.Histories.{updates_of}
use Rattle.la_set.proofs.Runs.{whole-run}
use Rattle.la_set.proofs.set.UpdateSet.run.Goals as goal

pub returns : goal.returns
returns c =
    let all = updates_of c.args.self.now c.args.replica in
    ap (map (λ u. u.now)) c.reverse.ensures.items
    ∙ whole-run (λ u. u.now) c.args.from c.args.most c.min-end.result all _ c.loop-left.run.items
    (c.min-end.ensures
    ∙ ap (λ n. min (c.args.from + c.args.most) n) (c.len_of.ensures ∙ ap length c.history_of-list.ensures.updates))
    (omega (arith, c.loop-left-test.false, c.len_of-in-loop-left.ensures)) c.loop-left.invariant
