use Rattle.std.proofs.Common.{arith}
use Rattle.std.proofs.lemmas.Option.{slice_get-get_or}
use Rattle.la_set.specs.Histories.{updates}
use Rattle.la_set.proofs.lemmas.Membership.{updates-ascending, listed-contains, contains-listed}
use Rattle.la_set.proofs.laws.updates_are_listed_in_order.Goals as goal

pub returns-clause-ascending : goal.returns-clause-ascending
returns-clause-ascending c s i j d lt within =
    updates-ascending s i j _ _ lt (slice_get-get_or (updates s) i d (omega arith))
    (slice_get-get_or (updates s) j d within)

pub returns-clause-members : goal.returns-clause-members
returns-clause-members c s u = (listed-contains s u, contains-listed s u)
