use Rattle.std.proofs.Common.{◌≡◌, IfErr, Some, None, refl, subst, rules}
use Rattle.std.specs.Io.KnownBytes.{Appends}
use Rattle.la_io.specs.Streams.{AppendsPrefix}
use Rattle.la_wire.specs.Calls.{called}
use Rattle.la_durable.specs.Nodes.{kept_by}
use Rattle.la_serve.specs.declared.error.NodeFault.TheVariants.{WriteFault}
use Rattle.la_serve.specs.Asking.{heard_as}
use Rattle.la_serve.specs.Io.{io_of}
use Rattle.la_serve.specs.Said.{IsSaidHere}
use Rattle.la_serve.specs.Turns.{IsKeptTurn, IsTurnHere}
use Rattle.la_serve.specs.Serving.{OfCall}
use Rattle.la_serve.proofs.TakenLines.{if_err_cut, on_ok_more, if_err_more}
use Rattle.la_serve.proofs.SaidTurns.{instead_taken, kept_here}
use Rattle.la_serve.proofs.answering.take_or_say.Goals as goal

pub returns-in_ok-put-in-Some-clause-ok : goal.returns-in_ok-put-in-Some-clause-ok
returns-in_ok-put-in-Some-clause-ok g c =
    let heard = heard_as c.args.asking c.args.input.now.line in
    let server = c.args.server.now in
    instead_taken Appends c.args.asking.number heard c.args.input.now _ _ c.in-Some.said refl refl _ c.own.ensures
    c.in_ok-put-in-Some.ensures.ok c.requires.asked.1
    (subst
    (λ x. IsSaidHere server.shelf.objects (kept_by server.node.durable.machine) heard (called x) (Some c.in-Some.said))
    c.call.ensures.is (c.in-Some.ensures c.args.input.now.line))

pub returns-in_err-put-in-Some-clause-err : goal.returns-in_err-put-in-Some-clause-err
returns-in_err-put-in-Some-clause-err g c =
    let f : IfErr c.from_residual.result (λ e. e ≡ WriteFault) = search rules in
    let heard = heard_as c.args.asking c.args.input.now.line in
    let server = c.args.server.now in
    if_err_cut _ _ _ _ c.from_residual.result f
    (instead_taken AppendsPrefix c.args.asking.number heard c.args.input.now _ _ c.in-Some.said refl refl _
    c.own.ensures c.in_err-put-in-Some.ensures.err c.requires.asked.1
    (subst
    (λ x. IsSaidHere server.shelf.objects (kept_by server.node.durable.machine) heard (called x) (Some c.in-Some.said))
    c.call.ensures.is (c.in-Some.ensures c.args.input.now.line)))

pub returns-in-None-clause-ok : goal.returns-in-None-clause-ok
returns-in-None-clause-ok g c =
    let heard = heard_as c.args.asking c.args.input.now.line in
    let server = c.args.server.now in
    let k = c.args.asking.number in
    let before = io_of (g.W.Write.contents c.args.output.now) server in
    let after = io_of (g.W.Write.contents c.take.new.output) c.take.new.server in
    on_ok_more (OfCall heard c.args.input.now (λ _. IsKeptTurn) k) (OfCall heard c.args.input.now IsTurnHere k)
    before after
    (kept_here k heard c.args.input.now before after c.requires.asked.1
    (subst (λ x. IsSaidHere server.shelf.objects (kept_by server.node.durable.machine) heard (called x) None)
    c.call.ensures.is (c.in-None.ensures c.args.input.now.line)))
    (λ told tells. tells) c.take.result c.take.ensures.ok

pub returns-in-None-clause-err : goal.returns-in-None-clause-err
returns-in-None-clause-err g c =
    let heard = heard_as c.args.asking c.args.input.now.line in
    let server = c.args.server.now in
    let k = c.args.asking.number in
    let before = io_of (g.W.Write.contents c.args.output.now) server in
    let after = io_of (g.W.Write.contents c.take.new.output) c.take.new.server in
    if_err_more (OfCall heard c.args.input.now (λ _. IsKeptTurn) k) (OfCall heard c.args.input.now IsTurnHere k)
    before after
    (kept_here k heard c.args.input.now before after c.requires.asked.1
    (subst (λ x. IsSaidHere server.shelf.objects (kept_by server.node.durable.machine) heard (called x) None)
    c.call.ensures.is (c.in-None.ensures c.args.input.now.line)))
    (λ told tells. tells) c.take.result c.take.ensures.err
