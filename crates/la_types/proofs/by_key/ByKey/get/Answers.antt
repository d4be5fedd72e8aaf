use Rattle.std.proofs.Common.{ap, ◌∙◌}
use Rattle.std.specs.FinMap as fin
use Rattle.std.specs.Vec.{vec_items}
use Rattle.la_types.proofs.KeyEntries.{found_is}
use Rattle.la_types.proofs.by_key.ByKey.get.Goals as goal

pub returns : goal.returns
returns g c =
    c.get.ensures.value ∙ found_is vec_items c.self.inside.of.entries c.args.key.now
    ∙ ap (λ m. fin.get m c.args.key.now) c.self.view_is
