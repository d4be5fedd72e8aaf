use Rattle.std.proofs.Common.{sym, subst}
use Rattle.std.specs.List.{IsDistinct}
use Rattle.la_orset.specs.Index.{same_id}
use Rattle.la_orset.proofs.tag_list.TagList.new.Goals as goal

pub invariant_of-result : goal.invariant_of-result
unfolding IsDistinct
invariant_of-result c = subst (IsDistinct same_id) (sym c.new.ensures.items) tt
