use Rattle.std.proofs.Common.{◌≡◌, IfErr, refl, false, true, rules}
use Rattle.std.specs.Io.KnownBytes.{Appends}
use Rattle.la_io.specs.Streams.{AppendsPrefix}
use Rattle.la_node.specs.declared.link.Sending.TheVariants.{Lack}
use Rattle.la_node.specs.Links.{is_lacked}
use Rattle.la_serve.specs.declared.error.NodeFault.TheVariants.{WriteFault}
use Rattle.la_serve.specs.Asking.{heard_as}
use Rattle.la_serve.proofs.TakenLines.{if_err_cut}
use Rattle.la_serve.proofs.SaidTurns.{again_taken, lacked_here, known_taken}
use Rattle.la_serve.proofs.answering.mend.Goals as goal

pub returns-then-not-is_lacked-clause-ok : goal.returns-then-not-is_lacked-clause-ok
returns-then-not-is_lacked-clause-ok g c =
    let none : is_lacked c.args.server.now.links c.args.replica ≡ false = search rules in
    known_taken (heard_as c.args.asking c.args.input.now.line) c.args.input.now c.args.asking.number _ c.args.replica
    c.requires.2 none

pub returns-clause-ok : goal.returns-clause-ok
returns-clause-ok g c =
    let lacks : is_lacked c.args.server.now.links c.args.replica ≡ true = search rules in
    again_taken Appends c.args.asking.number (heard_as c.args.asking c.args.input.now.line) c.args.input.now _ _ refl
    refl _ c.own.ensures _ (Lack c.args.replica)
    (λ t same is. lacked_here _ _ c.args.asking.number _ c.args.replica t c.requires.2 lacks is)
    c.said_again-said.result c.in_ok-put.ensures.ok c.said_again-said.ensures

pub returns-in_err-put-clause-err : goal.returns-in_err-put-clause-err
returns-in_err-put-clause-err g c =
    let lacks : is_lacked c.args.server.now.links c.args.replica ≡ true = search rules in
    let f : IfErr c.from_residual.result (λ e. e ≡ WriteFault) = search rules in
    if_err_cut _ _ _ _ c.from_residual.result f
    (again_taken AppendsPrefix c.args.asking.number (heard_as c.args.asking c.args.input.now.line) c.args.input.now _ _
    refl refl _ c.own.ensures _ (Lack c.args.replica)
    (λ t same is. lacked_here _ _ c.args.asking.number _ c.args.replica t c.requires.2 lacks is)
    c.said_again-said.result c.in_err-put.ensures.err c.said_again-said.ensures)
