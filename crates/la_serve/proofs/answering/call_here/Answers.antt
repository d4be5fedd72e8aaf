use Rattle.std.proofs.Common.{◌≡◌, IfErr, refl, sym, ap, ◌∙◌, rules}
use Rattle.std.specs.Io.KnownBytes.{Appends}
use Rattle.la_io.specs.Streams.{AppendsPrefix}
use Rattle.la_node.specs.declared.link.Sending.TheVariants.{Timer}
use Rattle.la_node.specs.Links.{asked_with}
use Rattle.la_replica.specs.Progress.{progress_of}
use Rattle.la_wire.specs.Calls.{called}
use Rattle.la_durable.specs.Nodes.{kept_by}
use Rattle.la_serve.specs.declared.error.NodeFault.TheVariants.{WriteFault}
use Rattle.la_serve.specs.Asking.{heard_as}
use Rattle.la_serve.proofs.TakenLines.{if_err_cut}
use Rattle.la_serve.proofs.SaidTurns.{again_taken, ask_taken, tick_here}
use Rattle.la_serve.proofs.answering.call_here.Goals as goal

pub returns-in_ok-put-in-Ask-clause-ok : goal.returns-in_ok-put-in-Ask-clause-ok
returns-in_ok-put-in-Ask-clause-ok g c =
    ask_taken Appends c.args.asking.number (heard_as c.args.asking c.args.input.now.line) c.args.input.now _ _
    c.said_to_call-said.result refl refl _ c.own.ensures
    c.in_ok-put-in-Ask.ensures.ok _ _ _ (ap called (sym c.call.ensures.is ∙ c.in-Ask.is))
    c.said_to_call-said.ensures.said

pub returns-in_err-put-in-Ask-clause-err : goal.returns-in_err-put-in-Ask-clause-err
returns-in_err-put-in-Ask-clause-err g c =
    let f : IfErr c.from_residual.result (λ e. e ≡ WriteFault) = search rules in
    if_err_cut _ _ _ _ c.from_residual.result f
    (ask_taken AppendsPrefix c.args.asking.number (heard_as c.args.asking c.args.input.now.line) c.args.input.now _ _
    c.said_to_call-said.result refl refl _ c.own.ensures
    c.in_err-put-in-Ask.ensures.err _ _ _ (ap called (sym c.call.ensures.is ∙ c.in-Ask.is))
    c.said_to_call-said.ensures.said)

pub returns-in_ok-put-in-Tick-clause-ok : goal.returns-in_ok-put-in-Tick-clause-ok
returns-in_ok-put-in-Tick-clause-ok g c =
    let known = c.args.server.now.links in
    let kept = kept_by c.args.server.now.node.durable.machine in
    let asked : c.asked-asked.result ≡ asked_with known (progress_of kept) = search rules in
    again_taken Appends c.args.asking.number (heard_as c.args.asking c.args.input.now.line) c.args.input.now _ _ refl
    refl _ c.own-in-Tick.ensures _ Timer
    (λ t same is.
    tick_here _ _ c.args.asking.number _ _ (ap called (sym c.call.ensures.is ∙ c.in-Tick.is)) asked t is)
    c.said_again-said.result c.in_ok-put-in-Tick.ensures.ok c.said_again-said.ensures

pub returns-in_err-put-in-Tick-clause-err : goal.returns-in_err-put-in-Tick-clause-err
returns-in_err-put-in-Tick-clause-err g c =
    let known = c.args.server.now.links in
    let kept = kept_by c.args.server.now.node.durable.machine in
    let asked : c.asked-asked.result ≡ asked_with known (progress_of kept) = search rules in
    let f : IfErr c.from_residual-in_err-put-in-Tick.result (λ e. e ≡ WriteFault) = search rules in
    if_err_cut _ _ _ _ c.from_residual-in_err-put-in-Tick.result f
    (again_taken AppendsPrefix c.args.asking.number (heard_as c.args.asking c.args.input.now.line) c.args.input.now _ _
    refl refl _ c.own-in-Tick.ensures _ Timer
    (λ t same is.
    tick_here _ _ c.args.asking.number _ _ (ap called (sym c.call.ensures.is ∙ c.in-Tick.is)) asked t is)
    c.said_again-said.result c.in_err-put-in-Tick.ensures.err c.said_again-said.ensures)
