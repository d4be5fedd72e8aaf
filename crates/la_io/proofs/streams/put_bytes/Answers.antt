use Rattle.std.proofs.Common.{arith}
use Rattle.std.proofs.lemmas.List.{length-drop}
use Rattle.la_io.proofs.lemmas.Written.{written_more}
use Rattle.la_io.proofs.streams.put_bytes.Goals as goal

pub loop-done-preserved : goal.loop-done-preserved
loop-done-preserved g c = record {
  written = written_more _ _ _ _ _ _ c.loop-done.invariant.written c.in_ok-count.ensures.bytes;
  within = omega (arith, c.in_ok-count.ensures.bound, length-drop c.loop-done.done c.args.bytes.now);
}
