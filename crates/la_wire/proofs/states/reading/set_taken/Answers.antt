use Rattle.la_wire.proofs.StateSets.{set-taken, set-not_taken}
use Rattle.la_wire.proofs.states.reading.set_taken.Goals as goal

pub returns-in-Ok : goal.returns-in-Ok
returns-in-Ok c =
    set-taken c.args.union.now c.args.counts c.new.result c.new-delta.result c.new.ensures c.new-delta.ensures
    c.in-Ok.set c.in-Ok.ensures.stands c.in-Ok.ensures.ok

pub returns : goal.returns
returns c =
    set-not_taken c.args.union.now c.args.counts c.new.result c.new-delta.result c.new.ensures c.new-delta.ensures
    c.in-Err.refused c.in-Err.ensures.error c.in_default.not-Memory
