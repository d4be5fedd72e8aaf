use Rattle.std.proofs.Common.{refl}
use Rattle.la_wire.proofs.QuestionGates.{nothing_awaited_here}
use Rattle.la_wire.proofs.questions.awaited_in.Goals as goal

pub returns-then-not-begins_with : goal.returns-then-not-begins_with
returns-then-not-begins_with c =
    nothing_awaited_here c.args.line.now _ c.begins_with.result c.begins_with.ensures refl
    c.if-not-begins_with.true
