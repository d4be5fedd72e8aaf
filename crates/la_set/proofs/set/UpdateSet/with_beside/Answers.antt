use Rattle.std.proofs.Common.{ap, sym, ◌∙◌, subst}
use Rattle.std.proofs.lemmas.Result.{err_from_is_err_and}
use Rattle.la_set.specs.Counts.{HasCounts, within}
use Rattle.la_set.specs.Join.{join}
use Rattle.la_set.proofs.Splicing.{join-rebuilt, join-stands}
use Rattle.la_set.proofs.set.UpdateSet.with_beside.Goals as goal

pub spliced-requires-clause-theirs : goal.spliced-requires-clause-theirs
spliced-requires-clause-theirs c =
    subst (HasCounts c.in-Some.set.now) (sym c.base-base.ensures) c.in-Some.ensures.base

pub returns-in-Some-clause-ok : goal.returns-in-Some-clause-ok
returns-in-Some-clause-ok c =
    let s = c.in-Some.set.now in let base = c.base-base.ensures in
    c.in_ok-spliced.ensures ∙ ap (λ b. join (within c.args.self.now b) s) base
    ∙ join-rebuilt c.args.self.now s c.args.delta.now c.in-Some.ensures.delta
    (subst (HasCounts c.args.self.now) base (c.has_counts.ensures.0 c.if-not-has_counts.false))
    c.in-Some.ensures.base c.in-Some.ensures.limit

pub returns-in-Some-clause-stands : goal.returns-in-Some-clause-stands
returns-in-Some-clause-stands c =
    join-stands c.args.self.now c.in-Some.set.now c.args.delta.now c.in-Some.ensures.delta
    (subst (HasCounts c.args.self.now) c.base-base.ensures (c.has_counts.ensures.0 c.if-not-has_counts.false))
    c.in-Some.ensures.base c.in-Some.ensures.limit

pub returns-in_err-spliced-clause-error : goal.returns-in_err-spliced-clause-error
returns-in_err-spliced-clause-error c =
    let refused = err_from_is_err_and c.from_residual.result c.from_residual.ensures.1 in
    rw (refused.1, refused.2) (
    join-stands c.args.self.now c.in-Some.set.now c.args.delta.now c.in-Some.ensures.delta
    (subst (HasCounts c.args.self.now) c.base-base.ensures (c.has_counts.ensures.0 c.if-not-has_counts.false))
    c.in-Some.ensures.base c.in-Some.ensures.limit
    )
