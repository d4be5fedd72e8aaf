use Rattle.std.proofs.Common.{◌≤◌, length, arith}
use Rattle.std.proofs.lemmas.List.{length-drop}
use Rattle.std.proofs.lemmas.Result.{on_err_weaker}
use Rattle.la_io.proofs.Told.{rest_is_refused, flush_is_refused, all_is_told}
use Rattle.la_io.proofs.lemmas.Written.{written_more}
use Rattle.la_io.proofs.lemmas.Always.{always_ok, always_err}
use Rattle.la_io.proofs.listener.tell_all.Goals as goal

pub loop-done-preserved : goal.loop-done-preserved
loop-done-preserved g c = record {
  told = written_more _ _ _ _ _ _ c.loop-done.invariant.told c.in_ok-count.ensures.bytes;
  within = omega (arith, c.in_ok-count.ensures.bound, length-drop c.loop-done.done c.args.bytes.now);
}

pub returns-in_err-count-clause-err : goal.returns-in_err-count-clause-err
returns-in_err-count-clause-err g c =
    always_err c.from_residual.result
    (rest_is_refused g.E.Write.contents g.E.Listener.refuses _ _ _ c.args.bytes.now c.loop-done.done
    c.loop-done.invariant.told c.in_err-count.ensures.bytes c.in_err-count.ensures.refused)

pub returns-clause-ok : goal.returns-clause-ok
returns-clause-ok g c =
    let all : length c.args.bytes.now ≤ c.loop-done.done = omega arith in
    always_ok c.settle.result
    (all_is_told g.E.Write.contents g.E.Listener.refuses _ _ _ c.args.bytes.now c.loop-done.done
    c.loop-done.invariant.told c.settle.ensures.bytes all)

pub returns-clause-err : goal.returns-clause-err
returns-clause-err g c =
    let all : length c.args.bytes.now ≤ c.loop-done.done = omega arith in
    on_err_weaker c.settle.result
    (flush_is_refused g.E.Write.contents g.E.Listener.refuses _ _ _ c.args.bytes.now c.loop-done.done
    c.loop-done.invariant.told c.settle.ensures.bytes all)
    c.settle.ensures.refused
