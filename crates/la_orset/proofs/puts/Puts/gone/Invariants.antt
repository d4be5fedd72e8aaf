use Rattle.std.proofs.Common.{◌≡◌, ℕ, ◌<◌, [], drop, get_or}
use Rattle.la_orset.specs.Rows.{IsAscending}
use Rattle.la_orset.specs.Puts.{entries_from, all_gone}
use Rattle.la_orset.proofs.puts.Puts.gone.Given as goal

abbrev pub invariant-loop-place : goal.invariant-loop-place
invariant-loop-place l =
    (all_gone l.gone (entries_from l.place (drop l.place l.self-inside.by_replica.items))
    ≡ all_gone l.initial.gone (entries_from 0 l.self-inside.by_replica.items))
    × ((j : ℕ) → j < l.place → IsAscending (get_or l.self-inside.by_replica.items j []))
