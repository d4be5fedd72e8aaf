use Rattle.std.proofs.Common.{◌∙◌, sym, arith}
use Rattle.la_wire.proofs.QuestionWords.{no_question, other_question}
use Rattle.la_wire.proofs.questions.question_asked.Goals as goal

pub returns-in_default : goal.returns-in_default
returns-in_default c =
    no_question c.args.words.now (λ e. omega (arith, e, c.in_default.len_below))
    (λ e. omega (arith, e, c.in_default.len_below))

pub returns-in_default-3 : goal.returns-in_default-3
returns-in_default-3 c =
    other_question c.args.words.now _ (omega (arith, c.in-len4.len_at_least, c.in-len4.len_below))
    (sym c.eq-then-words-lt5.ensures ∙ c.if-eq-2.false)

pub returns-in_default-4 : goal.returns-in_default-4
returns-in_default-4 c =
    no_question c.args.words.now (λ e. omega (arith, e, c.in_default.len_at_least))
    (λ e. omega (arith, e, c.in_default.len_at_least))
