use Rattle.std.proofs.Common.{[], ◌++◌, map, length, ap, sym, subst, ◌∙◌}
use Rattle.la_set.specs.Histories.{IsWithinLimit}
use Rattle.la_set.specs.Representation.{four_of}
use Rattle.la_set.proofs.Fours.{few-counts}
use Rattle.la_set.proofs.Representation.{cut-counts, cut-limit}
use Rattle.la_set.proofs.set.UpdateSet.counts.Goals as goal

pub returns-in-Some-clause-counts : goal.returns-in-Some-clause-counts
returns-in-Some-clause-counts c =
    few-counts c.args.self.now c.in-Some.low.now c.in-Some.ensures.set c.of_fours.result
    (c.of_fours.ensures ∙ ap (λ ns. ns ++ map length (four_of [])) c.lens.ensures)

pub returns-in-Some-clause-limit : goal.returns-in-Some-clause-limit
returns-in-Some-clause-limit c = subst IsWithinLimit (sym c.in-Some.ensures.set) c.in-Some.ensures.keeps.within

pub returns-clause-counts : goal.returns-clause-counts
returns-clause-counts c =
    c.capped.ensures
    ∙ cut-counts c.self.inside.of c.args.self.now c.cut-cut.result c.self.invariant c.cut-cut.ensures c.self.view_is
    c.counts.result c.counts.ensures

pub returns-clause-limit : goal.returns-clause-limit
returns-clause-limit c = cut-limit c.self.inside.of c.args.self.now c.self.invariant c.self.view_is
