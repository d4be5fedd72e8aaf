use Rattle.std.proofs.Common.{arith}
use Rattle.la_script.proofs.Laying.{runs_more}
use Rattle.la_script.proofs.marks.mark_words.Goals as goal

pub loop-left-preserved : goal.loop-left-preserved
loop-left-preserved c = record {
  runs = runs_more _ _ _ _ _ _ c.loop-left.invariant.runs (omega arith) c.in_ok-push.ensures.items (omega arith);
  most = omega arith;
}
