use Rattle.std.proofs.Common.{◌≡◌, ◌+◌, ◌≤◌, ◌<◌, ◌^◌, false, length}
use Rattle.la_journal.specs.Commits.{groups, last_record}
use Rattle.la_journal.specs.Records.{ended, link, record_line, behind}
use Rattle.la_journal.specs.Journal.{journal, in_a_row}
use Rattle.la_journal.specs.Machine.{lines_lead}
use Rattle.la_journal.specs.Playing.{leads_more, StopsAmong}
use Rattle.la_journal.proofs.recovery.play_groups.Given as goal

abbrev pub invariant-loop-group : goal.invariant-loop-group
invariant-loop-group g l = record {
  state : leads_more g.M.Machine.named_state g.M.Machine.named g.M.Machine.step l.begun (g.M.Machine.state l.machine)
      (ended (in_a_row (groups record_line l.before l.rest)))
      ≡ lines_lead g.M.Machine.named_state g.M.Machine.named g.M.Machine.step (g.M.Machine.state l.initial.machine)
      (journal (ended (in_a_row (groups record_line l.head.line.now l.head.rest.now))));
  linked : length (link l.before) ≡ 16;
  long : l.length ≡ length l.file;
  small : l.length < 2 ^ 64;
  within : length l.rest ≤ length l.file;
  behind : behind l.before l.rest ≡ behind l.head.line.now l.head.rest.now;
  number : l.number + length l.rest ≤ length l.head.rest.now + 2;
  stops : (why : _)
      → StopsAmong g.M.Machine.lacks_memory g.M.Machine.named_state g.M.Machine.named g.M.Machine.step l.begun
      (g.M.Machine.state l.machine) l.number (groups record_line l.before l.rest) why
      → StopsAmong g.M.Machine.lacks_memory g.M.Machine.named_state g.M.Machine.named g.M.Machine.step false
      (g.M.Machine.state l.initial.machine) 2 (groups record_line l.head.line.now l.head.rest.now) why;
  last : last_record record_line l.before (groups record_line l.before l.rest)
      ≡ last_record record_line l.head.line.now (groups record_line l.head.line.now l.head.rest.now);
}

abbrev pub decreases-loop-group : goal.decreases-loop-group
decreases-loop-group g l = length l.rest
