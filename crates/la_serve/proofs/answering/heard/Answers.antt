use Rattle.std.proofs.Common.{subst}
use Rattle.la_io.specs.Streams.{TellsLine}
use Rattle.la_wire.specs.Notes.{line_fault_line}
use Rattle.la_durable.specs.Inputs.{IsInputRefusal}
use Rattle.la_serve.specs.Asking.{heard_as}
use Rattle.la_serve.proofs.OneLine.{ok_heard, err_heard, fault_taken}
use Rattle.la_serve.proofs.answering.heard.Goals as goal

pub returns-in-Ok-clause-ok : goal.returns-in-Ok-clause-ok
returns-in-Ok-clause-ok g c =
    ok_heard g.E.Write.contents g.E.Listener.refuses c.args.errors.now c.args.asking.number c.args.asking
    c.args.line.now _ _ c.in-Ok.input c.in-Ok.ensures.ok c.call-call.ensures.says c.call-call.ensures.line
    c.call.result c.call.ensures.ok

pub returns-in-Ok-clause-err : goal.returns-in-Ok-clause-err
returns-in-Ok-clause-err g c =
    err_heard g.E.Write.contents g.E.Listener.refuses c.args.errors.now c.args.asking.number c.args.asking
    c.args.line.now _ _ c.in-Ok.input c.in-Ok.ensures.ok c.call-call.ensures.says c.call-call.ensures.line
    c.call.result c.call.ensures.err

pub returns-in-Ok-wrong_part-clause-ok : goal.returns-in-Ok-wrong_part-clause-ok
returns-in-Ok-wrong_part-clause-ok g c =
    let fault = c.in-Err-Fault.fault in
    let refused = g.E.Listener.refuses in
    let of_part =
    subst
    (λ part.
    TellsLine g.E.Write.contents refused c.args.errors.now c.tell_fault.new.errors
    (line_fault_line c.args.asking.number fault part c.args.asking.name.now)) c.in-Ok-wrong_part.ensures
    c.tell_fault.ensures in
    fault_taken g.E.Write.contents refused c.args.errors.now c.args.asking.number
    (heard_as c.args.asking c.args.line.now) _ c.tell_fault.new.errors fault
    (subst (IsInputRefusal c.args.line.now) c.in-Err-Fault.field-0-is c.in-Err-Fault.ensures.error) of_part
