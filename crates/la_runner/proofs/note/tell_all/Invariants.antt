use Rattle.std.proofs.Common.{map}
use Rattle.la_runner.specs.Instances.{state_of}
use Rattle.la_runner.proofs.Telling.{Telling}
use Rattle.la_runner.proofs.note.tell_all.Given as goal

abbrev pub invariant-loop-at : goal.invariant-loop-at
invariant-loop-at l = Telling (map state_of l.fn.instances.items) l.at l.instances.items l.told.items
