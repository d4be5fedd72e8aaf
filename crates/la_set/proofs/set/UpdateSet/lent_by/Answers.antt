use Rattle.std.proofs.Common.{sym, ◌∙◌, ap, subst}
use Rattle.la_set.specs.Deltas.{delta_of, HasBase}
use Rattle.la_set.proofs.Rebuilding.{rebuilt-agreeing}
use Rattle.la_set.proofs.set.UpdateSet.lent_by.Goals as goal

pub returns-in-Whole-clause-rebuilt : goal.returns-in-Whole-clause-rebuilt
returns-in-Whole-clause-rebuilt c =
    let s = c.in-Whole.set in let base = c.delta.inside.base in
    rebuilt-agreeing c.args.self.now s base c.args.delta.now (sym (ap (delta_of base) c.in-Whole.is) ∙ c.delta.view_is)
    (subst (HasBase base) c.in-Whole.is c.delta.invariant) c.allocator.ensures c.requires.stands c.requires.agrees
