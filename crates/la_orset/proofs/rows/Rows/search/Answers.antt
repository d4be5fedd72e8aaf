use Rattle.std.proofs.Common.{rules, sym, ◌∙◌, subst}
use Rattle.std.proofs.lemmas.List.Sorted.{answers_always}
use Rattle.la_orset.specs.Rows.{IsAscending, IsGapFor}
use Rattle.la_orset.proofs.Numbers.{searched}
use Rattle.la_orset.proofs.rows.Rows.search.Goals as goal

pub returns-clause-found : goal.returns-clause-found
returns-clause-found c =
    let facts = c.binary_search_by_key.ensures in
    let by_key = facts.position (λ row. row.number) (answers_always _ _ _ (λ f a r g called. search rules)) in
    rw (← c.self.view_is, ← c.deref.ensures.value)
    (searched _ (rw c.deref.ensures.value c.self.invariant) c.args.number _ facts.bound by_key).found

pub returns-clause-absent : goal.returns-clause-absent
returns-clause-absent c =
    let facts = c.binary_search_by_key.ensures in
    let by_key = facts.position (λ row. row.number) (answers_always _ _ _ (λ f a r g called. search rules)) in
    rw (← c.self.view_is, ← c.deref.ensures.value)
    (searched _ (rw c.deref.ensures.value c.self.invariant) c.args.number _ facts.bound by_key).absent

pub returns-clause-ascending : goal.returns-clause-ascending
returns-clause-ascending c = subst IsAscending c.self.view_is c.self.invariant

pub returns-then-all_below-clause-absent : goal.returns-then-all_below-clause-absent
returns-then-all_below-clause-absent c =
    let items = c.self.inside.rows.items in
    let gap =
    rw c.as_slice.ensures.value at
    (c.all_below.ensures c.if-all_below.true (rw c.as_slice.ensures.value c.self.invariant)) in
    subst (λ rows. IsGapFor rows c.args.number c.len.result) c.self.view_is
    (subst (IsGapFor items c.args.number) (sym (c.len.ensures ∙ c.self.inside.rows.ok.0)) gap)

pub returns-then-all_below-clause-ascending : goal.returns-then-all_below-clause-ascending
returns-then-all_below-clause-ascending c = subst IsAscending c.self.view_is c.self.invariant

pub returns-in-Some-clause-found : goal.returns-in-Some-clause-found
returns-in-Some-clause-found c = rw (← c.self.view_is, ← c.as_slice-2.ensures.value) c.in-Some.ensures

pub returns-in-Some-clause-ascending : goal.returns-in-Some-clause-ascending
returns-in-Some-clause-ascending c = subst IsAscending c.self.view_is c.self.invariant
