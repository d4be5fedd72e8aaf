use Rattle.std.proofs.Common.{ap, sym, ◌∙◌}
use Rattle.la_set.specs.Representation.{represented}
use Rattle.la_set.specs.Kept.{lists_of, cut_to}
use Rattle.la_set.proofs.Representation.{uncut, cut-nothing}
use Rattle.la_set.proofs.kept.Kept.cut_at.Goals as goal

pub returns-in-Empty-clause-set : goal.returns-in-Empty-clause-set
returns-in-Empty-clause-set c =
    uncut _ 0 ∙ cut-nothing c.args.cut.replica c.args.cut.len
    ∙ sym (ap (λ kept. cut_to c.args.cut (represented (lists_of kept))) c.in-Empty.is)
