use Rattle.std.proofs.Common.{◌≡◌, codes, IfErr, refl, sym, ◌∙◌, rules}
use Rattle.std.specs.Io.KnownBytes.{Appends}
use Rattle.la_io.specs.Streams.{AppendsPrefix}
use Rattle.la_serve.specs.declared.error.NodeFault.TheVariants.{WriteFault}
use Rattle.la_serve.specs.Io.{io_of}
use Rattle.la_serve.specs.Serving.{OfLine, OfRequest, IsStarvedLine}
use Rattle.la_serve.proofs.TakenLines.{if_err_cut, on_ok_more, if_err_more}
use Rattle.la_serve.proofs.Turns.{same_refusal}
use Rattle.la_serve.proofs.OneLine.{note_taken, of_request, of_starved, silent, starved, tells_none}
use Rattle.la_serve.proofs.answering.answer.Goals as goal

pub returns-then-is_note-clause-ok : goal.returns-then-is_note-clause-ok
returns-then-is_note-clause-ok g c =
    note_taken g.E.Write.contents g.E.Listener.refuses c.args.errors.now c.args.number c.args.line.now
    c.requires.short _ (sym c.is_note.ensures ∙ c.if-is_note.true)

pub returns-in-Ok-clause-ok : goal.returns-in-Ok-clause-ok
returns-in-Ok-clause-ok g c =
    let k = c.args.number in
    let line = c.args.line.now in
    let before = io_of (g.W.Write.contents c.args.output.now) c.args.server.now in
    let after = io_of (g.W.Write.contents c.respond.new.output) c.respond.new.server in
    on_ok_more (OfRequest line k) (OfLine line k) before after
    (of_request k line c.requires.short (sym c.is_note.ensures ∙ c.if-is_note.false) before after)
    (λ told tells. tells)
    c.respond.result c.respond.ensures.ok

pub returns-in-Ok-clause-err : goal.returns-in-Ok-clause-err
returns-in-Ok-clause-err g c =
    let k = c.args.number in
    let line = c.args.line.now in
    let before = io_of (g.W.Write.contents c.args.output.now) c.args.server.now in
    let after = io_of (g.W.Write.contents c.respond.new.output) c.respond.new.server in
    if_err_more (OfRequest line k) (OfLine line k) before after
    (of_request k line c.requires.short (sym c.is_note.ensures ∙ c.if-is_note.false) before after)
    (λ told tells. tells)
    c.respond.result c.respond.ensures.err

pub returns-in_ok-refuse-in-Err-clause-ok : goal.returns-in_ok-refuse-in-Err-clause-ok
returns-in_ok-refuse-in-Err-clause-ok g c =
    let k = c.args.number in
    let line = c.args.line.now in
    let out = g.W.Write.contents c.args.output.now in
    let after = g.W.Write.contents c.refuse.new.output in
    let before = io_of out c.args.server.now in
    let done = io_of after c.args.server.now in
    let other = sym c.is_note.ensures ∙ c.if-is_note.false in
    silent g.E.Write.contents g.E.Listener.refuses c.args.errors.now (IsStarvedLine line k) (OfLine line k) before done
    (λ t hungry.
    of_request k line c.requires.short other before done t
    (of_starved k line c.requires.short other before done t hungry)) Appends
    (starved Appends k line before after
    (same_refusal (Appends out after) c.own-own.result _ k (codes "Memory") (codes "Memory")
    c.request_in-request.result.name.now _ c.own-own.ensures refl c.request_in-request.ensures.name
    c.in_ok-refuse-in-Err.ensures.ok))

pub returns-in_err-refuse-in-Err-clause-err : goal.returns-in_err-refuse-in-Err-clause-err
returns-in_err-refuse-in-Err-clause-err g c =
    let k = c.args.number in
    let line = c.args.line.now in
    let out = g.W.Write.contents c.args.output.now in
    let after = g.W.Write.contents c.refuse.new.output in
    let before = io_of out c.args.server.now in
    let done = io_of after c.args.server.now in
    let other = sym c.is_note.ensures ∙ c.if-is_note.false in
    let f : IfErr c.from_residual.result (λ e. e ≡ WriteFault) = search rules in
    if_err_more (IsStarvedLine line k) (OfLine line k) before done
    (λ t hungry.
    of_request k line c.requires.short other before done t
    (of_starved k line c.requires.short other before done t hungry))
    (tells_none g.E.Write.contents g.E.Listener.refuses c.args.errors.now) c.from_residual.result
    (if_err_cut _ _ _ _ c.from_residual.result f
    (starved AppendsPrefix k line before after
    (same_refusal (AppendsPrefix out after) c.own-own.result _ k (codes "Memory") (codes "Memory")
    c.request_in-request.result.name.now _ c.own-own.ensures refl c.request_in-request.ensures.name
    c.in_err-refuse-in-Err.ensures.err)))
