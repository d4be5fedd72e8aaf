use Rattle.std.proofs.Common.{◌<◌, [], length, sym, ap, ◌∙◌, subst, arith}
use Rattle.std.specs.FinMap as map
use Rattle.std.proofs.lemmas.List.{get_or_default}
use Rattle.la_orset.specs.Rows.{at_number, live_element, named_known, IsPut}
use Rattle.la_orset.specs.Puts.{named_at, with_named}
use Rattle.la_orset.proofs.ById.{get-column, column-read, column-beyond, named_columns}
use Rattle.la_orset.proofs.puts.Puts.name.Goals as goal

pub returns-then-replica-len-clause-answer : goal.returns-then-replica-len-clause-answer
returns-then-replica-len-clause-answer c =
    let columns = c.self.inside.by_replica.items in let id = c.args.id in
    sym (ap live_element (ap (λ m. map.get m id) (sym c.self.view_is) ∙ get-column columns id
    ∙ column-beyond columns id.replica id.number (omega (arith, c.if-replica-len.true, c.len.ensures, c.self.inside.by_replica.ok))))

pub returns-then-replica-len-clause-named : goal.returns-then-replica-len-clause-named
returns-then-replica-len-clause-named c =
    let columns = c.self.inside.by_replica.items in let id = c.args.id in
    sym (ap (named_at c.args.self.now id) (ap (λ m. map.get m id) (sym c.self.view_is) ∙ get-column columns id
    ∙ column-beyond columns id.replica id.number (omega (arith, c.if-replica-len.true, c.len.ensures, c.self.inside.by_replica.ok))))

pub returns-clause-answer : goal.returns-clause-answer
returns-clause-answer c =
    let columns = c.self.inside.by_replica.items in let id = c.args.id in
    let lt : id.replica < length columns =
    omega (arith, c.if-replica-len.false, c.len.ensures, c.self.inside.by_replica.ok) in
    c.name.ensures.answer
    ∙ ap live_element
    (sym
    (ap (λ m. map.get m id) (sym c.self.view_is) ∙ get-column columns id
    ∙ column-read columns id.replica id.number c.index_mut.result.now c.index_mut.ensures.value lt))

pub returns-clause-named : goal.returns-clause-named
returns-clause-named c =
    let columns = c.self.inside.by_replica.items in let id = c.args.id in
    let lt : id.replica < length columns =
    omega (arith, c.if-replica-len.false, c.len.ensures, c.self.inside.by_replica.ok) in
    let here = c.index_mut.ensures.value ∙ get_or_default columns id.replica c.index_mut.result.now [] lt in
    named_columns columns id c.name.new.self lt
    (subst (λ rows. IsPut rows id.number (named_known (at_number rows id.number)) c.name.new.self) here c.name.ensures.named)
    ∙ ap (λ m. with_named m id) c.self.view_is
