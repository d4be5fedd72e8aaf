use Rattle.std.proofs.Common.{◌≡◌, replicate}
use Rattle.la_cli.specs.Threads.{increments}
use Rattle.la_cli.proofs.threads.jobs_of_all.Given as goal

abbrev pub invariant-loop : goal.invariant-loop
invariant-loop l = l.all.items ≡ replicate l.counter (increments l.each)
