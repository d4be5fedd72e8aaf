use Rattle.std.proofs.Common.{◌∙◌}
use Rattle.la_set.specs.Links.{lent_items}
use Rattle.la_set.proofs.Growing.{next-front}
use Rattle.la_set.proofs.delta.lengthen.Goals as goal

pub returns-then-has_at-clause-ok : goal.returns-then-has_at-clause-ok
returns-then-has_at-clause-ok c =
    c.in_ok-list.ensures
    ∙ next-front c.args.list.now (lent_items c.args.of) c.len-len.result c.args.update.now c.len-len.ensures
    (c.requires.own c.if-own.true) (c.has_at.ensures.0 c.if-has_at.true)
