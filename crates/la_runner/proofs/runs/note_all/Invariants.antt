use Rattle.std.specs.Prelude.{◌≡◌, map}
use Rattle.la_runner.specs.Counted.{log_taker}
use Rattle.la_runner.specs.Members.{member_view}
use Rattle.la_runner.specs.Runs.{log_back}
use Rattle.la_runner.proofs.Counting.{CountedTo, ExactlyTo}
use Rattle.la_runner.proofs.runs.note_all.Given as goal

abbrev pub invariant-loop-at : goal.invariant-loop-at
invariant-loop-at g l = record {
  same : map log_back l.logs.items
      ≡ map log_back l.initial.logs.items;
  exactly : ExactlyTo (map (λ x. x.notes) l.logs.items)
      (map log_taker l.logs.items) l.at;
  counted : CountedTo (map (λ x. x.notes) l.logs.items) (map (λ x. member_view x.member) l.logs.items) l.at;
}
