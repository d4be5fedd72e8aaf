use Rattle.std.proofs.Common.{subst, sym}
use Rattle.la_set.specs.Counts.{HasCounts}
use Rattle.la_set.proofs.Furthering.{is-further, has-further}
use Rattle.la_set.proofs.set.UpdateSet.further_base.Goals as goal

pub returns-clause-further : goal.returns-clause-further
returns-clause-further c =
    is-further c.args.self.now c.args.base c.args.counts c.counts.result c.min.result c.max.result
    c.counts.ensures.counts c.min.ensures c.max.ensures

pub returns-clause-has : goal.returns-clause-has
returns-clause-has c =
    subst (HasCounts c.args.self.now) (sym (returns-clause-further c))
    (has-further c.args.self.now c.args.base c.args.counts c.requires)
