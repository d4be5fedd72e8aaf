use Rattle.std.proofs.Common.{ap, ◌∙◌}
use Rattle.la_object.specs.declared.kind.Kind.TheVariants.{OrSet}
use Rattle.la_object.specs.OrSet.{set_value, live_tags}
use Rattle.la_object.specs.Objects.{of_object}
use Rattle.la_orset.proofs.Operations.{of_object-without}
use Rattle.la_orset.proofs.laws.marks_and_votes_do_not_count.Goals as goal

pub returns-clause-answers : goal.returns-clause-answers
returns-clause-answers c us number query =
    ap (λ vs. set_value vs query) (of_object-without number us)
    ∙ c.only_own_operations_count.ensures.marks OrSet (of_object number us) query

pub returns-clause-tags : goal.returns-clause-tags
returns-clause-tags c us number x =
    ap (λ vs. live_tags vs x) (of_object-without number us)
    ∙ c.only_own_operations_count.ensures.mark_tags OrSet (of_object number us) x
