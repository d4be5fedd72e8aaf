use Rattle.std.proofs.Common.{◌≡◌, ◌≤◌, ◌==◌, take, filter, length}
use Rattle.la_set.specs.Histories.{history}
use Rattle.la_set.specs.ObjectOps.{ObjectOp}
use Rattle.la_serve.proofs.questions.count_of_object.Given as goal

abbrev pub invariant-loop-number : goal.invariant-loop-number
invariant-loop-number l =
    (l.count ≡ length (filter (λ (d : ObjectOp). d.object == l.object) (take l.number (history l.set l.replica))))
    × (l.count ≤ l.number)
