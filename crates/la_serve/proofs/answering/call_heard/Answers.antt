use Rattle.std.proofs.Common.{sym, ap, ◌∙◌}
use Rattle.la_wire.specs.Calls.{called}
use Rattle.la_durable.specs.Nodes.{kept_by}
use Rattle.la_serve.specs.Asking.{heard_as}
use Rattle.la_serve.specs.Turns.{is_elsewhere}
use Rattle.la_serve.proofs.OneLine.{call_passed}
use Rattle.la_serve.proofs.answering.call_heard.Goals as goal

pub returns-then-is_elsewhere-clause-ok : goal.returns-then-is_elsewhere-clause-ok
returns-then-is_elsewhere-clause-ok g c =
    let n = kept_by c.args.server.now.node.durable.machine in
    call_passed (heard_as c.args.asking c.args.input.now.line) c.args.input.now c.args.asking.number _
    (ap (is_elsewhere n) (ap called (sym c.call.ensures.is)) ∙ sym c.is_elsewhere.ensures ∙ c.if-is_elsewhere.true)
