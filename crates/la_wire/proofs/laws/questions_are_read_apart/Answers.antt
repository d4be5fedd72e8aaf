use Rattle.la_wire.proofs.QuestionsBack.{question-back, take-back, awaited-back}
use Rattle.la_wire.proofs.QuestionLines.{call_no_question, call_no_take, call_waits_not}
use Rattle.la_wire.proofs.laws.questions_are_read_apart.Goals as goal

pub returns-clause-question : goal.returns-clause-question
returns-clause-question c q is = question-back q is

pub returns-clause-take : goal.returns-clause-take
returns-clause-take c t is = take-back t is

pub returns-clause-awaited : goal.returns-clause-awaited
returns-clause-awaited c line id front is = awaited-back line id is front

pub returns-clause-no_question : goal.returns-clause-no_question
returns-clause-no_question c line call is = call_no_question line call is

pub returns-clause-no_take : goal.returns-clause-no_take
returns-clause-no_take c line call is = call_no_take line call is

pub returns-clause-none_awaited : goal.returns-clause-none_awaited
returns-clause-none_awaited c line call is = call_waits_not line call is
