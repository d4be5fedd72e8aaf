use Rattle.std.proofs.Common.{map}
use Rattle.la_runner.specs.Runs.{back_of}
use Rattle.la_cli.proofs.Agreeing.{AgreeTo}
use Rattle.la_cli.proofs.threads.all_agree.Given as goal

abbrev pub invariant-loop-at : goal.invariant-loop-at
invariant-loop-at g l = AgreeTo (map (λ x. back_of x.replica x.member x.shelf x.entries x.stopped) l.logs) l.at
