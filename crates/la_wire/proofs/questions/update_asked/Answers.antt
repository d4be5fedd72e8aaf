use Rattle.std.proofs.Common.{arith}
use Rattle.la_wire.proofs.QuestionWords.{no_update}
use Rattle.la_wire.proofs.questions.update_asked.Goals as goal

pub returns-in_default : goal.returns-in_default
returns-in_default c = no_update c.args.words.now (λ e. omega (arith, e, c.in_default.len_below))

pub returns-in_default-2 : goal.returns-in_default-2
returns-in_default-2 c = no_update c.args.words.now (λ e. omega (arith, e, c.in_default.len_at_least))
