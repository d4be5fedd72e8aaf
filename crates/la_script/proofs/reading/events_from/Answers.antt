use Rattle.std.proofs.Common.{arith}
use Rattle.la_script.proofs.EventLists.{goes_on}
use Rattle.la_script.proofs.reading.events_from.Goals as goal

pub returns-in_err-event_at : goal.returns-in_err-event_at
returns-in_err-event_at c = grind (arith, goes_on)

pub loop-rest-preserved : goal.loop-rest-preserved
loop-rest-preserved c = grind (arith, goes_on)
