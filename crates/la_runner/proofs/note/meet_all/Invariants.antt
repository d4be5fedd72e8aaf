use Rattle.std.proofs.Common.{map, length}
use Rattle.la_runner.specs.Instances.{state_of}
use Rattle.la_runner.proofs.Telling.{told_items, MeetingAll}
use Rattle.la_runner.proofs.note.meet_all.Given as goal

abbrev pub invariant-loop-note : goal.invariant-loop-note
invariant-loop-note l =
    MeetingAll (told_items l.fn.told.items) (map state_of l.fn.instances.items) (told_items l.left.items)
    (map state_of l.instances.items)

abbrev pub decreases-loop-note : goal.decreases-loop-note
decreases-loop-note l = length l.left.items
