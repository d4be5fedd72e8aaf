use Rattle.std.proofs.Common.{◌<◌, length, ap, ◌∙◌, arith}
use Rattle.la_orset.specs.Rows.{at_number}
use Rattle.la_orset.proofs.ById.{same_columns}
use Rattle.la_orset.proofs.puts.Puts.set_place.Goals as goal

pub returns : goal.returns
returns c =
    let columns = c.self.inside.by_replica.items in let id = c.args.id in
    let lt : id.replica < length columns =
    omega (arith, c.if-replica-len.false, c.len.ensures, c.self.inside.by_replica.ok) in
    same_columns columns id.replica c.index_mut.result.now c.set_place.new.self lt c.index_mut.ensures.value
    (λ n. ap (λ rows. at_number rows n) c.set_place.ensures) ∙ c.self.view_is
