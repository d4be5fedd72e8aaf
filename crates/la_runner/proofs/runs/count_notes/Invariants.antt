use Rattle.std.specs.Prelude.{map}
use Rattle.la_runner.specs.Counted.{log_taker}
use Rattle.la_runner.specs.Members.{member_view}
use Rattle.la_runner.proofs.Counting.{Counting, Exactly}
use Rattle.la_runner.proofs.runs.count_notes.Given as goal

abbrev pub invariant-loop-other : goal.invariant-loop-other
invariant-loop-other g l = record {
  above : Counting (map (λ x. member_view x.member) l.logs.items) l.at l.other l.count;
  exactly : Exactly (map log_taker l.logs.items) l.at l.other l.count;
}
