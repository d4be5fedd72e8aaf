use Rattle.std.proofs.Common.{◌≡◌, ◌+◌, ◌≤◌, length}
use Rattle.std.specs.Prelude.{◌||◌}
use Rattle.la_journal.specs.Records.{ended, end_count}
use Rattle.la_journal.specs.Playing.{leads_more, are_some, StopsFrom}
use Rattle.la_journal.proofs.recovery.play_group.Given as goal

abbrev pub invariant-loop-n : goal.invariant-loop-n
invariant-loop-n g l = record {
  state : leads_more g.M.Machine.named_state g.M.Machine.named g.M.Machine.step l.begun (g.M.Machine.state l.machine)
      (ended l.rest)
      ≡ leads_more g.M.Machine.named_state g.M.Machine.named g.M.Machine.step l.fn.begun
      (g.M.Machine.state l.initial.machine) (ended l.lines);
  begun : (l.begun || are_some (ended l.rest)) ≡ (l.fn.begun || are_some (ended l.lines));
  within : length l.rest ≤ length l.lines;
  number : l.number + end_count l.rest ≡ l.fn.number + end_count l.lines;
  stops : (why : _)
      → StopsFrom g.M.Machine.lacks_memory g.M.Machine.named_state g.M.Machine.named g.M.Machine.step l.begun
      (g.M.Machine.state l.machine) l.number (ended l.rest) why
      → StopsFrom g.M.Machine.lacks_memory g.M.Machine.named_state g.M.Machine.named g.M.Machine.step l.fn.begun
      (g.M.Machine.state l.initial.machine) l.fn.number (ended l.lines) why;
}

abbrev pub decreases-loop-n : goal.decreases-loop-n
decreases-loop-n g l = length l.rest
