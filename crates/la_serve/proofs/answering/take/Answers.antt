use Rattle.std.proofs.Common.{◌≡◌, inl, inr, length, refl, ap, ◌∙◌, rules, IfErr}
use Rattle.std.specs.Io.KnownBytes.{Appends}
use Rattle.std.proofs.KnownBytes.{Appends-nil}
use Rattle.la_set.specs.Histories.{updates}
use Rattle.la_io.specs.Streams.{AppendsPrefix}
use Rattle.la_wire.specs.Calls.{called}
use Rattle.la_node.specs.Steps.{given_of}
use Rattle.la_durable.specs.Nodes.{kept_by}
use Rattle.la_serve.specs.declared.error.NodeFault.TheVariants.{WriteFault}
use Rattle.la_serve.specs.Names.{refusal_name}
use Rattle.la_serve.proofs.TakenLines.{if_err_cut}
use Rattle.la_serve.specs.Asking.{heard_as}
use Rattle.la_serve.proofs.Turns.{take_taken, same_text, take_refused, same_refusal, same_kept}
use Rattle.la_serve.proofs.answering.take.Goals as goal

pub returns-in-Ok-clause-ok : goal.returns-in-Ok-clause-ok
returns-in-Ok-clause-ok g c =
    let out = rw c.in-Taken.is at c.keep.ensures.outcome in
    take_taken Appends c.args.asking.number (heard_as c.args.asking c.args.input.now.line)
    c.args.input.now _ _ (given_of c.in-Taken.given)
    out.0 out.1 (inl c.in-Ok.ensures.noted) _
    (c.deref.ensures.value
    ∙ same_text _ _ _ c.args.server.now.links (kept_by c.keep.new.node.durable.machine) _ _ _ _
    (given_of c.in-Taken.given) c.in-Ok.ensures.text
    (c.len-before.ensures.len ∙ ap (λ v. length (updates v)) c.view.ensures) (ap called c.call.ensures.is)
    refl)
    c.in_ok-write_lines-in-Ok.ensures.ok

pub returns-in_err-write_lines-in-Ok-clause-err : goal.returns-in_err-write_lines-in-Ok-clause-err
returns-in_err-write_lines-in-Ok-clause-err g c =
    let out = rw c.in-Taken.is at c.keep.ensures.outcome in
    let f : IfErr c.from_residual.result (λ e. e ≡ WriteFault) = search rules in
    if_err_cut _ _ _ _ c.from_residual.result f
    (take_taken AppendsPrefix c.args.asking.number (heard_as c.args.asking c.args.input.now.line)
    c.args.input.now _ _
    (given_of c.in-Taken.given) out.0 out.1 (inl c.in-Ok.ensures.noted) _
    (c.deref.ensures.value
    ∙ same_text _ _ _ c.args.server.now.links (kept_by c.keep.new.node.durable.machine) _ _ _ _
    (given_of c.in-Taken.given) c.in-Ok.ensures.text
    (c.len-before.ensures.len ∙ ap (λ v. length (updates v)) c.view.ensures) (ap called c.call.ensures.is)
    refl)
    c.in_err-write_lines-in-Ok.ensures.err)

pub returns-in-Taken-clause-err : goal.returns-in-Taken-clause-err
returns-in-Taken-clause-err g c =
    let out = rw c.in-Taken.is at c.keep.ensures.outcome in
    take_taken AppendsPrefix c.args.asking.number (heard_as c.args.asking c.args.input.now.line)
    c.args.input.now _ _
    (given_of c.in-Taken.given) out.0 out.1 (inr c.in-Err.ensures.err) _ refl
    (0, Appends-nil (g.W.Write.contents c.args.output.now))

pub returns-clause-ok : goal.returns-clause-ok
returns-clause-ok g c =
    let out = rw c.in-Refused.is at c.keep.ensures.outcome in
    take_refused Appends c.args.asking.number (heard_as c.args.asking c.args.input.now.line)
    c.args.input.now _ _ c.in-Refused.refusal out.0
    (same_kept _ _ c.args.server.now.links out.1) out.2
    (same_refusal (Appends (g.W.Write.contents c.args.output.now) (g.W.Write.contents c.refuse.new.output))
    c.own-own.result _ c.args.asking.number c.refusal_name.result.now (refusal_name c.in-Refused.refusal)
    c.args.asking.name.now _
    c.own-own.ensures c.refusal_name.ensures.text refl c.in_ok-refuse-in-Refused.ensures.ok)

pub returns-in_err-refuse-in-Refused-clause-err : goal.returns-in_err-refuse-in-Refused-clause-err
returns-in_err-refuse-in-Refused-clause-err g c =
    let out = rw c.in-Refused.is at c.keep.ensures.outcome in
    let f : IfErr c.from_residual-in_err-refuse-in-Refused.result (λ e. e ≡ WriteFault) = search rules in
    if_err_cut _ _ _ _ c.from_residual-in_err-refuse-in-Refused.result f
    (take_refused AppendsPrefix c.args.asking.number (heard_as c.args.asking c.args.input.now.line)
    c.args.input.now _ _ c.in-Refused.refusal
    out.0 (same_kept _ _ c.args.server.now.links out.1) out.2
    (same_refusal (AppendsPrefix (g.W.Write.contents c.args.output.now) (g.W.Write.contents c.refuse.new.output))
    c.own-own.result _ c.args.asking.number c.refusal_name.result.now (refusal_name c.in-Refused.refusal)
    c.args.asking.name.now _
    c.own-own.ensures c.refusal_name.ensures.text refl c.in_err-refuse-in-Refused.ensures.err))
