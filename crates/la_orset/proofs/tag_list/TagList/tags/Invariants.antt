use Rattle.std.proofs.Common.{◌≡◌, take}
use Rattle.std.specs.List.{list_any}
use Rattle.la_set.specs.declared.update.UpdateId.{UpdateId}
use Rattle.la_orset.specs.Index.{same_id}
use Rattle.la_orset.proofs.tag_list.TagList.tags.Given as goal

abbrev pub invariant-loop-id : goal.invariant-loop-id
invariant-loop-id l = (q : UpdateId) → list_any (same_id q) l.tags ≡ list_any (same_id q) (take l.id-index l.id-items)
