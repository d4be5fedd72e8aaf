use Rattle.std.proofs.Common.{arith}
use Rattle.std.proofs.lemmas.List.{length-drop}
use Rattle.la_io.proofs.lemmas.Always.{always_err}
use Rattle.la_io.proofs.Adding.{written_on, prefix_on}
use Rattle.la_io.proofs.writing.write_lines.Goals as goal

pub returns-in_err-write_all-clause-err : goal.returns-in_err-write_all-clause-err
returns-in_err-write_all-clause-err g c =
    always_err c.from_residual.result
    (prefix_on _ _ _ c.args.text.now c.loop-done.done c.piece_end.result c.loop-done.invariant.written
    c.in_err-write_all.ensures.err)

pub loop-done-preserved : goal.loop-done-preserved
loop-done-preserved g c = record {
  written =
      written_on _ _ _ c.args.text.now c.loop-done.done c.piece_end.result c.loop-done.invariant.written
      c.in_ok-write_all.ensures.ok;
  within = omega (arith, c.piece_end.ensures.within, length-drop c.loop-done.done c.args.text.now);
}
