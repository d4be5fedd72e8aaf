use Rattle.std.proofs.Common.{◌≡◌, ap, sym, ◌∙◌, subst}
use Rattle.la_set.specs.Counts.{HasCounts}
use Rattle.la_set.specs.Deltas.{delta_of, delta_over, HasBase}
use Rattle.la_set.proofs.delta.Delta.whole.Goals as goal

pub returns-in-Whole : goal.returns-in-Whole
returns-in-Whole c =
    let s = c.in-Whole.set in let base = c.self.inside.base in
    let is : delta_over s base ≡ c.args.self.now = sym (ap (delta_of base) c.in-Whole.is) ∙ c.self.view_is in
    record {
      delta = sym is ∙ ap (delta_over s) (ap (λ d. d.base) is);
      base = subst (HasCounts s) (ap (λ d. d.base) is) (subst (HasBase base) c.in-Whole.is c.self.invariant);
      limit = c.allocator.ensures;
    }
