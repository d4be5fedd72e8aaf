use Rattle.std.proofs.Common.{sym}
use Rattle.la_tick.proofs.Whole.{ends_by_last}
use Rattle.la_tick.proofs.handing.ends_behind.Goals as goal

pub returns-in-Some : goal.returns-in-Some
returns-in-Some c =
    sym (ends_by_last c.args.ended c.args.bytes.now c.in-Some.last.now (sym c.in-Some.ensures.value))
