use Rattle.std.proofs.Common.{refl, ap, ◌∙◌}
use Rattle.std.specs.FinMap as fin
use Rattle.std.specs.Vec.{vec_items}
use Rattle.la_types.proofs.KeyEntries.{one_put}
use Rattle.la_types.proofs.by_key.ByKey.insert.Goals as goal

pub returns-clause-ok : goal.returns-clause-ok
returns-clause-ok g c =
    let updates = c.in_ok-insert.ensures.updates in
    one_put vec_items _ (λ x y. refl) c.self.inside.of.entries c.insert.new.self.entries c.args.key.items c.args.value
    updates.3 updates.1
    ∙ ap (λ m. fin.insert m c.args.key.items c.args.value) c.self.view_is
