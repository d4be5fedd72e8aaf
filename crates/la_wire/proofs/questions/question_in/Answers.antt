use Rattle.la_wire.proofs.QuestionGates.{no_question_here}
use Rattle.la_wire.proofs.questions.question_in.Goals as goal

pub returns-then-not-begins_with-3 : goal.returns-then-not-begins_with-3
returns-then-not-begins_with-3 c =
    no_question_here c.args.line.now c.begins_with.result c.begins_with-then-not-begins_with.result
    c.begins_with-then-not-begins_with-2.result c.begins_with.ensures c.begins_with-then-not-begins_with.ensures
    c.begins_with-then-not-begins_with-2.ensures c.if-not-begins_with.true c.if-not-begins_with-2.true
    c.if-not-begins_with-3.true
