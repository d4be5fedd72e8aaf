use Rattle.la_wire.proofs.StateSets.{set-made, set-not_made}
use Rattle.la_wire.proofs.states.reading.set_made.Goals as goal

pub returns-in-Ok : goal.returns-in-Ok
returns-in-Ok c =
    set-made c.args.updates c.new.result c.zero.result c.new-delta.result c.new.ensures c.zero.ensures
    c.new-delta.ensures c.in-Ok.set c.in-Ok.ensures.stands c.in-Ok.ensures.ok

pub returns : goal.returns
returns c =
    set-not_made c.args.updates c.new.result c.zero.result c.new-delta.result c.new.ensures c.zero.ensures
    c.new-delta.ensures c.in-Err.refused c.in-Err.ensures.error c.in_default.not-Memory
