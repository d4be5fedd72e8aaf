use Rattle.std.proofs.Common.{◌≡◌, ◌++◌, drop, map}
use Rattle.la_runner.specs.Runs.{back_of}
use Rattle.la_cli.specs.Threads.{logs_text}
use Rattle.la_cli.proofs.threads.put_logs.Given as goal

abbrev pub invariant-loop-replica : goal.invariant-loop-replica
invariant-loop-replica g l =
    l.out
    ++ logs_text l.replica (map (λ x. back_of x.replica x.member x.shelf x.entries x.stopped) (drop l.replica l.logs))
    ≡ l.initial.out ++ logs_text 0 (map (λ x. back_of x.replica x.member x.shelf x.entries x.stopped) l.logs)
