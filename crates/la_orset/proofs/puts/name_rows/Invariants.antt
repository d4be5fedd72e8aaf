use Rattle.std.proofs.Common.{◌≡◌, drop, map as list_map}
use Rattle.la_orset.specs.Puts.{row_entry, all_gone}
use Rattle.la_orset.proofs.puts.name_rows.Given as goal

abbrev pub invariant-loop-row : goal.invariant-loop-row
invariant-loop-row l =
    all_gone l.gone (list_map (row_entry l.replica) (drop l.row-index l.rows))
    ≡ all_gone l.fn.gone (list_map (row_entry l.replica) l.rows)
