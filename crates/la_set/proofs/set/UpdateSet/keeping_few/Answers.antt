use Rattle.std.proofs.Common.{ap, sym, subst, ◌∙◌}
use Rattle.la_set.specs.Representation.{represented, IsRepresentation}
use Rattle.la_set.proofs.Representation.{stored-uncut}
use Rattle.la_set.proofs.set.UpdateSet.keeping_few.Goals as goal

pub invariant_of-result : goal.invariant_of-result
invariant_of-result c = subst IsRepresentation (sym c.in_ok-keeping_few.ensures.lists) c.requires

pub returns : goal.returns
returns c =
    stored-uncut c.in_ok-keeping_few.field-0 c.in_ok-keeping_few.ensures.uncut
    ∙ ap represented c.in_ok-keeping_few.ensures.lists
