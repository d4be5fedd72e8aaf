use Rattle.std.proofs.Common.{◌≡◌, drop}
use Rattle.la_orset.specs.Puts.{entries_from}
use Rattle.la_orset.proofs.puts.Puts.is_empty.Given as goal

abbrev pub invariant-loop-place : goal.invariant-loop-place
invariant-loop-place l =
    entries_from 0 l.self-inside.by_replica.items ≡ entries_from l.place (drop l.place l.self-inside.by_replica.items)
