use Rattle.std.proofs.Common.{Some, ap, sym, ◌∙◌}
use Rattle.la_wire.specs.Calls.{called}
use Rattle.la_durable.proofs.Lines.{step_taken, answer_given, step_refused}
use Rattle.la_durable.proofs.machine.NodeMachineMachine.apply.Goals as goal

pub returns-clause-step : goal.returns-clause-step
returns-clause-step c =
    step_taken _ c.args.input.now.line (called c.call.result.now) c.call.ensures.line
    (c.call.ensures.says ∙ sym (ap (λ call. Some (called call)) c.call.ensures.is)) c.answer.result _
    c.answer.ensures.ok

pub returns-clause-answer : goal.returns-clause-answer
returns-clause-answer c =
    answer_given _ c.args.input.now.line (called c.call.result.now) c.call.ensures.line
    (c.call.ensures.says ∙ sym (ap (λ call. Some (called call)) c.call.ensures.is)) c.answer.result _
    c.answer.ensures.ok
    c.answer.ensures.still

pub returns-clause-refusal : goal.returns-clause-refusal
returns-clause-refusal c =
    step_refused _ c.args.input.now.line (called c.call.result.now) c.call.ensures.line
    (c.call.ensures.says ∙ sym (ap (λ call. Some (called call)) c.call.ensures.is)) c.answer.result
    c.answer.ensures.error
