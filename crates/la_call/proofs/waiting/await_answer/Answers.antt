use Rattle.std.proofs.Common.{◌≡◌, IfErr, subst, rules}
use Rattle.la_io.specs.Streams.{AppendsPrefix}
use Rattle.std.specs.Io.KnownBytes.{Appends}
use Rattle.la_call.specs.declared.error.CallFault.TheVariants.{WriteFault}
use Rattle.la_call.specs.Asking.{plan_in, Steps}
use Rattle.la_call.proofs.Hearing.{begins, first_fails, goes_on, answered, fails, too_many}
use Rattle.la_call.proofs.Printed.{if_err}
use Rattle.la_call.proofs.waiting.await_answer.Goals as goal

pub returns-in_err-write_all-clause-err : goal.returns-in_err-write_all-clause-err
returns-in_err-write_all-clause-err g c =
    let same : IfErr c.from_residual.result (λ e. e ≡ WriteFault) = search rules in
    let wrote : AppendsPrefix (g.W.Write.contents c.args.output.now) (g.W.Write.contents c.write_all.new.writer)
    c.args.asking.now.sent.items = search rules in
    if_err _ WriteFault c.from_residual.result same
    (first_fails (plan_in c.args.asking.now) _ _ _ c.args.asking.now.some wrote)

pub loop-init : goal.loop-init
loop-init g c =
    let wrote : Appends (g.W.Write.contents c.args.output.now) (g.W.Write.contents c.write_all.new.writer)
    c.args.asking.now.sent.items = search rules in
    record {
      so_far = begins (plan_in c.args.asking.now) _ _ _ c.args.asking.now.some wrote;
      over = c.requires.over;
    }

pub returns-in_err-now-clause-err : goal.returns-in_err-now-clause-err
returns-in_err-now-clause-err g c =
    let same : IfErr c.from_residual-in_err-now.result (λ e. e ≡ c.in_err-now.field-0.0) = search rules in
    if_err _ c.in_err-now.field-0.0 c.from_residual-in_err-now.result same
    (fails (plan_in c.args.asking.now) _ _ _ c.loop.tries c.loop.invariant.so_far c.in_err-now.field-0.0
    c.in_err-now.ensures.err)

pub returns-in-None-clause-ok : goal.returns-in-None-clause-ok
returns-in-None-clause-ok g c =
    answered (plan_in c.args.asking.now) _ _ _ c.loop.tries c.loop.invariant.so_far c.step.new.source.line.items
    (subst (Steps (plan_in c.args.asking.now) _ _ c.step.new.source.line.items c.loop.tries) c.in-None.is
    c.in_ok-now.ensures.ok)

pub loop-preserved : goal.loop-preserved
loop-preserved g c = record {
  so_far =
      goes_on (plan_in c.args.asking.now) _ _ _ c.loop.tries c.in-Some.now c.loop.invariant.so_far
      (subst (Steps (plan_in c.args.asking.now) _ _ c.step.new.source.line.items c.loop.tries) c.in-Some.is
      c.in_ok-now.ensures.ok);
  over = c.step.ensures.over;
}

pub returns-clause-err : goal.returns-clause-err
returns-clause-err g c = too_many (plan_in c.args.asking.now) _ _ c.loop.tries c.loop.invariant.so_far
