use Rattle.std.proofs.Common.{◌≡◌, None, get_or, ap, sym, ◌∙◌, arith}
use Rattle.std.proofs.lemmas.List.{get_or_past}
use Rattle.la_types.proofs.multi.LastWrites.of.Goals as goal

pub returns-then-replica-ge-REPLICAS : goal.returns-then-replica-ge-REPLICAS
returns-then-replica-ge-REPLICAS c =
    let past : get_or c.self.inside.of c.args.replica None ≡ None =
    get_or_past c.self.inside.of c.args.replica None (omega (arith, c.self.invariant, c.if-replica-ge-REPLICAS.true)) in
    sym (ap (λ all. get_or all c.args.replica None) (sym c.self.view_is) ∙ past)
