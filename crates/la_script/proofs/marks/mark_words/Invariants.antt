use Rattle.std.proofs.Common.{◌-◌, ◌≤◌}
use Rattle.la_script.specs.Marks.{AddsRuns}
use Rattle.la_script.proofs.marks.mark_words.Given as goal

abbrev pub invariant-loop-left : goal.invariant-loop-left
invariant-loop-left l = record {
  runs : AddsRuns (l.count - l.left) l.initial.marks.items l.marks.items;
  most : l.left ≤ l.count;
}

abbrev pub decreases-loop-left : goal.decreases-loop-left
decreases-loop-left l = l.left
