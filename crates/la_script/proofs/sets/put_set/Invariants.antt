use Rattle.std.proofs.Common.{◌≡◌, ◌++◌}
use Rattle.la_set.specs.Histories.{count}
use Rattle.la_script.specs.Text.{ids_text}
use Rattle.la_script.specs.Pieces.{ids_before, has_ids}
use Rattle.la_script.proofs.sets.put_set.Given as goal

abbrev pub invariant-loop-replica : goal.invariant-loop-replica
invariant-loop-replica l = record {
  text : l.out ≡ l.initial.out ++ ids_text (ids_before (count l.set) l.replica);
  behind : l.behind ≡ has_ids (ids_before (count l.set) l.replica);
}
