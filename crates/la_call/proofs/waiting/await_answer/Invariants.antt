use Rattle.std.proofs.Common.{◌≡◌, true}
use Rattle.std.specs.Io.KnownBytes.{IsAtEnd}
use Rattle.la_io.specs.Sources.{ahead}
use Rattle.la_call.specs.Asking.{plan_in}
use Rattle.la_call.specs.Calls.{standing}
use Rattle.la_call.proofs.Hearing.{Waited}
use Rattle.la_call.proofs.waiting.await_answer.Given as goal

abbrev pub invariant-loop : goal.invariant-loop
invariant-loop g l = record {
  so_far : Waited (plan_in l.asking)
      (standing (ahead l.fn.source (g.R.Read.remaining l.fn.input)) (g.W.Write.contents l.fn.output))
      (standing (ahead l.source (g.R.Read.remaining l.input)) (g.W.Write.contents l.output)) l.tries;
  over : l.source.over ≡ true → IsAtEnd (ahead l.source (g.R.Read.remaining l.input));
}
