use Rattle.std.proofs.Common.{Some, ap, sym, ◌∙◌}
use Rattle.std.proofs.lemmas.Bool.{false≢true}
use Rattle.std.proofs.lemmas.Option.{same_Some, none-some}
use Rattle.std.specs.Option.{option_copied}
use Rattle.la_set.specs.Links.{items_of}
use Rattle.la_set.proofs.Unmatched.{reaching, short_of}
use Rattle.la_set.proofs.algebra.step_beside.Goals as goal

pub returns-then-len_of-len-clause-has : goal.returns-then-len_of-len-clause-has
returns-then-len_of-len-clause-has c = λ all k next is.
    let short =
    short_of all (items_of (option_copied c.args.list)) c.args.len k next is
    (λ e. c.if-len_of-len.true (c.len_of.ensures ∙ e)) in
    ((λ t. absurd (false≢true t)), λ there. absurd (none-some _ (sym short.1 ∙ there)))

pub returns-then-len_of-len-clause-prev : goal.returns-then-len_of-len-clause-prev
returns-then-len_of-len-clause-prev c = λ all k next is.
    (short_of all (items_of (option_copied c.args.list)) c.args.len k next is
    (λ e. c.if-len_of-len.true (c.len_of.ensures ∙ e))).0

pub returns-clause-has : goal.returns-clause-has
returns-clause-has c = λ all k next is.
    let at =
    reaching all (items_of (option_copied c.args.list)) c.args.len k next is
    (items_of (option_copied c.step_back-step.result.prev)) c.step_back-step.result.item.now
    c.step_back-step.ensures (sym c.len_of.ensures ∙ c.if-len_of-len.false) in
    ((λ t. at.1 ∙ ap Some (c.same.ensures.0 t)), λ there. c.same.ensures.1 (same_Some _ _ (sym at.1 ∙ there)))

pub returns-clause-prev : goal.returns-clause-prev
returns-clause-prev c = λ all k next is.
    (reaching all (items_of (option_copied c.args.list)) c.args.len k next is
    (items_of (option_copied c.step_back-step.result.prev)) c.step_back-step.result.item.now c.step_back-step.ensures
    (sym c.len_of.ensures ∙ c.if-len_of-len.false)).0
