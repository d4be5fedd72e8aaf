use Rattle.std.proofs.Common.{Some, set as list_set, sym, ap, ◌∙◌, subst}
use Rattle.la_orset.specs.declared.rows.Row.{Row}
use Rattle.la_orset.specs.Rows.{at_number, live_element, named_known, IsAt, IsPut}
use Rattle.la_orset.proofs.Numbers.{answer_live, answer_gone, named_put, named_ascending, named_same, not_there, put_nothing}
use Rattle.la_orset.proofs.rows.Rows.name.Goals as goal

pub returns-then-row-clause-answer : goal.returns-then-row-clause-answer
returns-then-row-clause-answer c =
    let rows = c.self.inside.rows.items in let n = c.args.number in
    let at = subst (λ rows. IsAt rows n c.in-Ok.at) (sym c.self.view_is) c.in-Ok.ensures.found in
    answer_gone rows c.self.invariant n c.in-Ok.at at c.index.result.now c.index.ensures
    (ap (λ (row : Row). row.gone) (sym c.row-row.ensures) ∙ c.if-row.true)
    ∙ ap (λ rows. live_element (at_number rows n)) c.self.view_is

pub returns-then-row-clause-named : goal.returns-then-row-clause-named
returns-then-row-clause-named c =
    let rows = c.self.inside.rows.items in let n = c.args.number in
    let at = subst (λ rows. IsAt rows n c.in-Ok.at) (sym c.self.view_is) c.in-Ok.ensures.found in
    subst (λ rows. IsPut rows n (named_known (at_number rows n)) rows) c.self.view_is
    (named_same rows c.self.invariant n c.in-Ok.at at c.index.result.now c.index.ensures
    (ap (λ (row : Row). row.gone) (sym c.row-row.ensures) ∙ c.if-row.true))

pub invariant_of-self : goal.invariant_of-self
invariant_of-self c =
    let rows = c.self.inside.rows.items in let n = c.args.number in
    let at = subst (λ rows. IsAt rows n c.in-Ok.at) (sym c.self.view_is) c.in-Ok.ensures.found in
    rw (c.new.ensures, c.row-row.ensures)
    (named_ascending rows c.self.invariant n c.in-Ok.at at c.index.result.now c.index.ensures)

pub returns-else-row-clause-answer : goal.returns-else-row-clause-answer
returns-else-row-clause-answer c =
    let rows = c.self.inside.rows.items in let n = c.args.number in
    let at = subst (λ rows. IsAt rows n c.in-Ok.at) (sym c.self.view_is) c.in-Ok.ensures.found in
    ap (λ (row : Row). Some row.element) c.row-row.ensures
    ∙ answer_live rows c.self.invariant n c.in-Ok.at at c.index.result.now c.index.ensures
    (ap (λ (row : Row). row.gone) (sym c.row-row.ensures) ∙ c.if-row.false)
    ∙ ap (λ rows. live_element (at_number rows n)) c.self.view_is

pub returns-else-row-clause-named : goal.returns-else-row-clause-named
returns-else-row-clause-named c =
    let rows = c.self.inside.rows.items in let n = c.args.number in
    let at = subst (λ rows. IsAt rows n c.in-Ok.at) (sym c.self.view_is) c.in-Ok.ensures.found in
    subst (λ old. IsPut old n (named_known (at_number old n)) (list_set rows c.in-Ok.at c.new.result)) c.self.view_is
    (rw (c.new.ensures, c.row-row.ensures)
    (named_put rows c.self.invariant n c.in-Ok.at at c.index.result.now c.index.ensures))

pub returns-in-Err-clause-answer : goal.returns-in-Err-clause-answer
returns-in-Err-clause-answer c =
    sym (ap live_element (not_there c.args.self.now c.args.number c.in-Err.field-0 c.in-Err.ensures.absent))

pub returns-in-Err-clause-named : goal.returns-in-Err-clause-named
returns-in-Err-clause-named c =
    let none = not_there c.args.self.now c.args.number c.in-Err.field-0 c.in-Err.ensures.absent in
    subst (λ o. IsPut c.args.self.now c.args.number o c.args.self.now) (sym (ap named_known none))
    (put_nothing c.args.self.now c.args.number none)
