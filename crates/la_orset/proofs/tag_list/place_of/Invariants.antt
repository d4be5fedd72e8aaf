use Rattle.std.proofs.Common.{◌≡◌, false, take}
use Rattle.std.specs.List.{list_any}
use Rattle.la_orset.specs.Index.{same_id}
use Rattle.la_orset.proofs.tag_list.place_of.Given as goal

abbrev pub invariant-loop-place : goal.invariant-loop-place
invariant-loop-place l = list_any (same_id l.id) (take l.place l.ids) ≡ false
