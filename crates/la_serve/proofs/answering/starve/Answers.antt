use Rattle.std.proofs.Common.{◌≡◌, codes, IfErr, refl, rules}
use Rattle.std.specs.Io.KnownBytes.{Appends}
use Rattle.la_io.specs.Streams.{AppendsPrefix}
use Rattle.la_serve.specs.declared.error.NodeFault.TheVariants.{WriteFault}
use Rattle.la_serve.specs.Io.{io_of}
use Rattle.la_serve.proofs.TakenLines.{if_err_cut}
use Rattle.la_serve.proofs.Turns.{same_refusal}
use Rattle.la_serve.proofs.OneLine.{starved}
use Rattle.la_serve.proofs.answering.starve.Goals as goal

pub returns-clause-ok : goal.returns-clause-ok
returns-clause-ok g c =
    let before = g.W.Write.contents c.args.output.now in
    let after = g.W.Write.contents c.refuse.new.output in
    starved Appends c.args.asking.number c.args.asking.line.now (io_of before c.args.server.now) after
    (same_refusal (Appends before after) c.own-own.result _ c.args.asking.number (codes "Memory") (codes "Memory")
    c.args.asking.name.now _ c.own-own.ensures refl c.requires.name c.in_ok-refuse.ensures.ok)

pub returns-in_err-refuse-clause-err : goal.returns-in_err-refuse-clause-err
returns-in_err-refuse-clause-err g c =
    let f : IfErr c.from_residual.result (λ e. e ≡ WriteFault) = search rules in
    let before = g.W.Write.contents c.args.output.now in
    let after = g.W.Write.contents c.refuse.new.output in
    if_err_cut _ _ _ _ c.from_residual.result f
    (starved AppendsPrefix c.args.asking.number c.args.asking.line.now (io_of before c.args.server.now) after
    (same_refusal (AppendsPrefix before after) c.own-own.result _ c.args.asking.number (codes "Memory")
    (codes "Memory") c.args.asking.name.now _ c.own-own.ensures refl c.requires.name c.in_err-refuse.ensures.err))
