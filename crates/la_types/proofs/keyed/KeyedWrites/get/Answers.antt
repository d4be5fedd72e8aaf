use Rattle.std.proofs.Common.{◌∙◌, sym, ap}
use Rattle.std.specs.FinMap as map
use Rattle.la_types.specs.KeyOrder.{key_total}
use Rattle.la_types.proofs.lemmas.FiniteMaps.{get-lookup}
use Rattle.la_types.proofs.keyed.KeyedWrites.get.Goals as goal

pub returns : goal.returns
returns c =
    c.get.ensures.value ∙ sym (get-lookup key_total c.self.inside.of.entries c.args.key.now)
    ∙ ap (λ m. map.get m c.args.key.now) c.self.view_is
