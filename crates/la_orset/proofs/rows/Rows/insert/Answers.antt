use Rattle.std.proofs.Common.{refl, sym, ap, ◌∙◌, subst}
use Rattle.la_orset.specs.declared.rows.Row.{Row}
use Rattle.la_orset.specs.Rows.{IsAscending, IsGapFor}
use Rattle.la_orset.proofs.Numbers.{set_ascending, put_there, insert_ascending, put_between}
use Rattle.la_orset.proofs.rows.Rows.insert.Goals as goal

pub invariant_of-self : goal.invariant_of-self
invariant_of-self c =
    set_ascending _ c.self.invariant c.args.row.number _ (rw c.self.view_is c.in-Ok.ensures.found) c.new.result
    (ap (λ (row : Row). row.number) c.new.ensures)

pub returns-in-Ok-clause-ok : goal.returns-in-Ok-clause-ok
returns-in-Ok-clause-ok c =
    rw (c.self.view_is, c.new.ensures)
    (put_there _ (subst IsAscending c.self.view_is c.self.invariant) _ _ c.in-Ok.ensures.found c.args.row refl)

pub invariant_of-self-in-Err : goal.invariant_of-self-in-Err
invariant_of-self-in-Err c =
    let rows = c.make_room.new.items.items in
    let gap =
    subst (λ rows. IsGapFor rows c.args.row.number c.in-Err.at) (sym (c.make_room.ensures ∙ c.self.view_is))
    c.in-Err.ensures.absent in
    rw c.in_ok-insert_at-in-Err.ensures.ok
    (insert_ascending rows c.args.row.number c.in-Err.at gap c.new-in-Err.result
    (ap (λ (row : Row). row.number) c.new-in-Err.ensures)
    (subst IsAscending (sym c.make_room.ensures) c.self.invariant))

pub returns-in_ok-insert_at-in-Err-clause-ok : goal.returns-in_ok-insert_at-in-Err-clause-ok
returns-in_ok-insert_at-in-Err-clause-ok c =
    rw (c.in_ok-insert_at-in-Err.ensures.ok, c.make_room.ensures, c.self.view_is, c.new-in-Err.ensures)
    (put_between _ _ _ c.in-Err.ensures.absent c.args.row refl)
