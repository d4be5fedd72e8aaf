use Rattle.std.proofs.Common.{◌<◌, length, is_some, sym, ap, ◌∙◌, arith}
use Rattle.std.specs.FinMap as map
use Rattle.la_orset.proofs.ById.{get-column, column-read, column-beyond}
use Rattle.la_orset.proofs.puts.Puts.has.Goals as goal

pub returns-then-replica-len : goal.returns-then-replica-len
returns-then-replica-len c =
    let columns = c.self.inside.by_replica.items in let id = c.args.id in
    sym (ap is_some (ap (λ m. map.get m id) (sym c.self.view_is) ∙ get-column columns id
    ∙ column-beyond columns id.replica id.number (omega (arith, c.if-replica-len.true, c.len.ensures, c.self.inside.by_replica.ok))))

pub returns : goal.returns
returns c =
    let columns = c.self.inside.by_replica.items in let id = c.args.id in
    let lt : id.replica < length columns =
    omega (arith, c.if-replica-len.false, c.len.ensures, c.self.inside.by_replica.ok) in
    c.has.ensures
    ∙ ap is_some
    (sym
    (ap (λ m. map.get m id) (sym c.self.view_is) ∙ get-column columns id
    ∙ column-read columns id.replica id.number c.index.result.now c.index.ensures lt))
