use Rattle.std.proofs.Common.{sym, ◌∙◌}
use Rattle.la_set.proofs.lemmas.Inclusions.{subset-counts}
use Rattle.la_set.proofs.lemmas.Joins.{join-nothing, join-subset}
use Rattle.la_set.proofs.set.UpdateSet.join_compatible.Goals as goal

pub returns-then-has_no_more-clause-ok : goal.returns-then-has_no_more-clause-ok
returns-then-has_no_more-clause-ok c =
    sym (join-nothing c.args.self.now c.args.other.now (c.has_no_more.ensures.0 c.if-has_no_more.true))

pub returns-then-has_no_more-2-clause-ok : goal.returns-then-has_no_more-2-clause-ok
returns-then-has_no_more-2-clause-ok c =
    let s = c.args.self.now in let t = c.args.other.now in
    c.in_ok-self.ensures
    ∙ sym (join-subset s t (subset-counts s t c.requires (c.has_no_more-2.ensures.0 c.if-has_no_more-2.true)))

pub returns-clause-ok : goal.returns-clause-ok
returns-clause-ok c = c.in_ok-self-2.ensures ∙ c.in_ok-of.ensures.join
