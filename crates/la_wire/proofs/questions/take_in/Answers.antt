use Rattle.std.proofs.Common.{refl}
use Rattle.la_wire.proofs.QuestionGates.{no_take_here}
use Rattle.la_wire.proofs.questions.take_in.Goals as goal

pub returns-then-not-begins_with : goal.returns-then-not-begins_with
returns-then-not-begins_with c =
    no_take_here c.args.line.now _ c.begins_with.result c.begins_with.ensures refl
    c.if-not-begins_with.true
