use Rattle.std.proofs.Common.{◌≡◌}
use Rattle.la_cli.specs.Threads.{increments}
use Rattle.la_cli.proofs.threads.increments.Given as goal

abbrev pub invariant-loop : goal.invariant-loop
invariant-loop l = l.jobs.items ≡ increments l.counter
