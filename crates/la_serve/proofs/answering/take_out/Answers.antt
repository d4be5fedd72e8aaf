use Rattle.std.proofs.Common.{◌≡◌, IfErr, length, leb, refl, sym, ap, ◌∙◌, rules}
use Rattle.std.proofs.lemmas.Bool.{le-leb}
use Rattle.std.specs.Io.KnownBytes.{Appends}
use Rattle.la_io.specs.Streams.{AppendsPrefix}
use Rattle.la_set.specs.declared.tags.TheConstants.{MAX_TAGS}
use Rattle.la_set.specs.declared.update.Op.TheVariants as op
use Rattle.la_wire.specs.Calls.{Submit}
use Rattle.la_wire.specs.CallLines.{call_line_text}
use Rattle.la_serve.specs.declared.error.NodeFault.TheVariants.{WriteFault}
use Rattle.la_serve.specs.Serving.{OfTake}
use Rattle.la_serve.proofs.TakenLines.{if_err_more, if_err_cut}
use Rattle.la_serve.proofs.OneLine.{silent, tells_none}
use Rattle.la_serve.proofs.SaidTurns.{heard_so, ok_take, err_take, take_refused_by}
use Rattle.la_serve.proofs.answering.take_out.Goals as goal

pub returns-in-Ok-remove_line-clause-ok : goal.returns-in-Ok-remove_line-clause-ok
returns-in-Ok-remove_line-clause-ok g c =
    let a = c.args.asking in
    let take = c.args.take in
    let tags = c.in-Ok.ensures.ok in
    ok_take a.number a.line.now take _ _ c.taken_tags.new.shelf.objects c.taken_tags.ensures.objects _
    (heard_so a c.requires.1 take _ record {
      number = a.number;
      line = a.line;
      name = a.name;
      update = take.number;
      after = a.after;
    } c.deref.result.now refl refl refl refl
    (c.deref.ensures.value ∙ c.in-Ok-remove_line.ensures
    ∙ ap (λ ts. call_line_text (Submit take.replica take.object (op.Remove ts))) tags))
    (sym (ap (λ ts. leb (length ts) MAX_TAGS) tags)
    ∙ le-leb (length c.in-Ok.tags) MAX_TAGS c.len-few.ensures.tags.within)
    _ c.heard.result c.heard.ensures.ok

pub returns-in-Ok-remove_line-clause-err : goal.returns-in-Ok-remove_line-clause-err
returns-in-Ok-remove_line-clause-err g c =
    let a = c.args.asking in
    let take = c.args.take in
    let tags = c.in-Ok.ensures.ok in
    err_take a.number a.line.now take _ _ c.taken_tags.new.shelf.objects c.taken_tags.ensures.objects _
    (heard_so a c.requires.1 take _ record {
      number = a.number;
      line = a.line;
      name = a.name;
      update = take.number;
      after = a.after;
    } c.deref.result.now refl refl refl refl
    (c.deref.ensures.value ∙ c.in-Ok-remove_line.ensures
    ∙ ap (λ ts. call_line_text (Submit take.replica take.object (op.Remove ts))) tags))
    (sym (ap (λ ts. leb (length ts) MAX_TAGS) tags)
    ∙ le-leb (length c.in-Ok.tags) MAX_TAGS c.len-few.ensures.tags.within)
    _ c.heard.result c.heard.ensures.err

pub returns-in_ok-put-in-Err-clause-ok : goal.returns-in_ok-put-in-Err-clause-ok
returns-in_ok-put-in-Err-clause-ok g c =
    let k = c.args.asking.number in
    let line = c.args.asking.line.now in
    silent g.E.Write.contents g.E.Listener.refuses c.args.errors.now (OfTake line c.args.take k)
    (OfTake line c.args.take k) _ _ (λ t is. is) Appends
    (take_refused_by Appends k line c.args.take _ _ c.in-Err.why refl refl _ c.own.ensures _ c.requires.1.name
    c.in_ok-put-in-Err.ensures.ok c.in-Err.ensures.error)

pub returns-in_err-put-in-Err-clause-err : goal.returns-in_err-put-in-Err-clause-err
returns-in_err-put-in-Err-clause-err g c =
    let k = c.args.asking.number in
    let line = c.args.asking.line.now in
    let f : IfErr c.from_residual.result (λ e. e ≡ WriteFault) = search rules in
    if_err_more (OfTake line c.args.take k) (OfTake line c.args.take k) _ _ (λ t is. is)
    (tells_none g.E.Write.contents g.E.Listener.refuses c.args.errors.now) c.from_residual.result
    (if_err_cut _ _ _ _ c.from_residual.result f
    (take_refused_by AppendsPrefix k line c.args.take _ _ c.in-Err.why refl refl _ c.own.ensures _ c.requires.1.name
    c.in_err-put-in-Err.ensures.err c.in-Err.ensures.error))
