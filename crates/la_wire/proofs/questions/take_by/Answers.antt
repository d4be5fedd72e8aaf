use Rattle.std.proofs.Common.{arith}
use Rattle.la_wire.proofs.QuestionWords.{no_take}
use Rattle.la_wire.proofs.questions.take_by.Goals as goal

pub returns-in_default : goal.returns-in_default
returns-in_default c = no_take c.args.words.now (λ e. omega (arith, e, c.in_default.len_below))

pub returns-in_default-4 : goal.returns-in_default-4
returns-in_default-4 c = no_take c.args.words.now (λ e. omega (arith, e, c.in_default.len_at_least))
