use Rattle.std.proofs.Common.{◌≡◌, ◌<◌, Bool, true, false, not, refl, [], Some, is_none, length, ap, ◌∙◌, subst, arith}
use Rattle.std.specs.FinMap as map
use Rattle.std.proofs.lemmas.List.{get_or_default}
use Rattle.la_object.specs.IdOrder.{id_cmp}
use Rattle.la_orset.specs.Rows.{known_row, IsPut}
use Rattle.la_orset.proofs.ById.{put_columns}
use Rattle.la_orset.proofs.puts.Puts.insert.Goals as goal

not_not : (b : Bool) → not (not b) ≡ b
not_not true = refl
not_not false = refl

pub returns-clause-ok : goal.returns-clause-ok
returns-clause-ok c =
    let columns = c.widen.new.by_replica.items in let id = c.args.id in
    let k = known_row (record { number = id.number; gone = is_none c.args.place; element = c.args.element }) in
    let lt : id.replica < length columns = omega (arith, c.in_ok-widen.ensures.ok) in
    let here = c.index_mut.ensures.value ∙ get_or_default columns id.replica c.index_mut.result.now [] lt in
    let put : IsPut c.index_mut.result.now id.number (Some k) c.insert.new.self =
    rw (ap not c.is_none.ensures ∙ not_not c.is_none.result) c.in_ok-insert.ensures.ok in
    put_columns columns id c.insert.new.self k lt
    (subst (λ rows. IsPut rows id.number (Some k) c.insert.new.self) here put)
    ∙ ap (λ m. map.insert m id k) (ap (map.from_entries {R = id_cmp}) c.widen.ensures.same ∙ c.self.view_is)
