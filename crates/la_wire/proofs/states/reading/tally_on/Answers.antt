use Rattle.la_wire.proofs.StateTexts.{next_reply}
use Rattle.la_wire.proofs.states.reading.tally_on.Goals as goal

pub loop-left-preserved : goal.loop-left-preserved
loop-left-preserved c =
    next_reply c.args.union.now c.loop-left.tally.items c.push.new.self.items c.loop-left.left.now _ c.from.result
    c.in_ok-from.from c.in_ok-reply.reply _ c.from.ensures c.in-len2-up.len_at_least c.in_ok-from.ensures.exact
    c.in_ok-reply.ensures c.in_ok-push.ensures.ok c.loop-left.invariant
