use Rattle.std.proofs.Common.{◌≡◌, IfErr, refl, sym, ◌∙◌, rules}
use Rattle.std.specs.Io.KnownBytes.{Appends}
use Rattle.la_io.specs.Streams.{AppendsPrefix}
use Rattle.la_serve.specs.declared.error.NodeFault.TheVariants.{WriteFault}
use Rattle.la_serve.proofs.TakenLines.{if_err_cut}
use Rattle.la_serve.proofs.SaidTurns.{question_passed, question_said}
use Rattle.la_serve.proofs.answering.question.Goals as goal

pub returns-then-not-is_own-clause-ok : goal.returns-then-not-is_own-clause-ok
returns-then-not-is_own-clause-ok g c =
    question_passed c.args.asking.line.now c.args.question c.args.asking.number _
    (sym c.is_own.ensures ∙ c.if-not-is_own.true)

pub returns-clause-ok : goal.returns-clause-ok
returns-clause-ok g c =
    question_said Appends c.args.asking.number c.args.asking.line.now c.args.question _ _ c.said_to-said.result refl
    refl (sym c.is_own.ensures ∙ c.if-not-is_own.false) _ c.own-own.ensures _ c.requires.asked.name c.in_ok-put.ensures.ok
    c.said_to-said.ensures.said

pub returns-in_err-put-clause-err : goal.returns-in_err-put-clause-err
returns-in_err-put-clause-err g c =
    let f : IfErr c.from_residual.result (λ e. e ≡ WriteFault) = search rules in
    if_err_cut _ _ _ _ c.from_residual.result f
    (question_said AppendsPrefix c.args.asking.number c.args.asking.line.now c.args.question _ _ c.said_to-said.result
    refl refl (sym c.is_own.ensures ∙ c.if-not-is_own.false) _ c.own-own.ensures _ c.requires.asked.name
    c.in_err-put.ensures.err c.said_to-said.ensures.said)
