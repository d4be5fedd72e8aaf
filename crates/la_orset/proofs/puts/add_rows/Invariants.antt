use Rattle.std.proofs.Common.{◌≡◌, drop, map as list_map}
use Rattle.la_orset.specs.Puts.{row_entry, all_added}
use Rattle.la_orset.proofs.puts.add_rows.Given as goal

abbrev pub invariant-loop-row : goal.invariant-loop-row
invariant-loop-row l =
    all_added l.adds (list_map (row_entry l.replica) (drop l.row-index l.rows))
    ≡ all_added l.fn.adds (list_map (row_entry l.replica) l.rows)
