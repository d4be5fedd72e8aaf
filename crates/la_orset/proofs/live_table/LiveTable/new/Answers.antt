use Rattle.std.proofs.Common.{sym, subst}
use Rattle.std.specs.Ordering.{nat_cmp}
use Rattle.std.specs.FinMap as map
use Rattle.la_orset.specs.Index.{IsWhole}
use Rattle.la_orset.proofs.LiveTags.{whole-empty}
use Rattle.la_orset.proofs.live_table.LiveTable.new.Goals as goal

pub invariant_of-result : goal.invariant_of-result
invariant_of-result c = subst (λ es. IsWhole (map.from_entries {R = nat_cmp} es)) (sym c.new.ensures.empty) whole-empty
