use Rattle.std.proofs.Common.{◌≡◌, drop}
use Rattle.std.specs.FinMap as map
use Rattle.la_orset.specs.Puts.{entries_from, all_added}
use Rattle.la_orset.proofs.puts.Puts.adds.Given as goal

abbrev pub invariant-loop-place : goal.invariant-loop-place
invariant-loop-place l =
    all_added l.adds (entries_from l.place (drop l.place l.self-inside.by_replica.items))
    ≡ all_added map.empty (entries_from 0 l.self-inside.by_replica.items)
