use Rattle.std.proofs.Common.{ap, ◌∙◌, inr}
use Rattle.la_wire.specs.Calls.{called}
use Rattle.la_durable.specs.Nodes.{acts, kept_by}
use Rattle.la_durable.proofs.Acting.{question_elsewhere, known_elsewhere, tick_elsewhere}
use Rattle.la_durable.proofs.machine.NodeMachine.act.Goals as goal

pub returns-in-Ask-clause-error : goal.returns-in-Ask-clause-error
returns-in-Ask-clause-error c =
    let n = kept_by c.args.self.now in
    inr
    (ap (λ call. acts n (called call)) c.in-Ask.is
    ∙ question_elsewhere n c.in-Ask.replica c.in-Ask.object c.in-Ask.query)

pub returns-in-Tick-clause-error : goal.returns-in-Tick-clause-error
returns-in-Tick-clause-error c =
    let n = kept_by c.args.self.now in
    inr (ap (λ call. acts n (called call)) c.in-Tick.is ∙ tick_elsewhere n)

pub returns-in-Known-clause-error : goal.returns-in-Known-clause-error
returns-in-Known-clause-error c =
    let n = kept_by c.args.self.now in
    inr (ap (λ call. acts n (called call)) c.in-Known.is ∙ known_elsewhere n c.in-Known.field-0)
