use Rattle.std.proofs.Common.{◌≡◌, sym, subst, ap, ◌∙◌, Err}
use Rattle.la_script.specs.declared.script.Version.TheVariants.{Two}
use Rattle.la_script.specs.Lines.{line_event}
use Rattle.la_script.specs.Scripts.{at_line, event_at, IsReadRefusal}
use Rattle.la_wire.specs.Readings.{GivesOnLine}
use Rattle.la_wire.specs.Calls.{called}
use Rattle.la_wire.proofs.ScriptCalls.{said-event, said-fault}
use Rattle.la_wire.proofs.calls.script_call.Goals as goal

pub returns-in-Ok : goal.returns-in-Ok
returns-in-Ok c =
    subst (λ said. GivesOnLine called said c.event_call.result)
    (sym (said-event 0 (line_event Two c.args.line.now) c.in-Ok.event c.in-Ok.ensures)) c.event_call.ensures

pub returns-in-Err-Fault : goal.returns-in-Err-Fault
returns-in-Err-Fault c =
    let is : at_line 0 (line_event Two c.args.line.now) ≡ Err c.in-Err-Fault.fault =
    subst (IsReadRefusal (event_at Two 0 c.args.line.now)) c.in-Err-Fault.field-0-is c.in-Err-Fault.ensures in
    said-fault 0 (line_event Two c.args.line.now) c.in-Err-Fault.fault is ∙ ap Err (sym c.fault_of.ensures)
