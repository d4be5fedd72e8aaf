use Rattle.la_set.specs.Histories.{empty}
use Rattle.la_shared.proofs.Acknowledgements.{yes_comparable, later_contains}
use Rattle.la_shared.proofs.laws.acknowledged_sets_are_comparable.Goals as goal

pub returns-clause-any_two : goal.returns-clause-any_two
returns-clause-any_two c = let joins = c.union_has_both.ensures in
    yes_comparable joins.first joins.members (λ a s. (c.replies_tell_what_is_accepted.ensures.acknowledged a s).0) empty

pub returns-clause-later : goal.returns-clause-later
returns-clause-later c = let joins = c.union_has_both.ensures in
    later_contains joins.first joins.members (λ a s. (c.replies_tell_what_is_accepted.ensures.acknowledged a s).0)
