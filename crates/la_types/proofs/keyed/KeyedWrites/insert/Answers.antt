use Rattle.std.proofs.Common.{◌∙◌, ap}
use Rattle.std.specs.FinMap as map
use Rattle.la_types.specs.KeyOrder.{key_total, key_tied}
use Rattle.la_types.proofs.lemmas.FiniteMaps.{one_put}
use Rattle.la_types.proofs.keyed.KeyedWrites.insert.Goals as goal

pub returns-clause-ok : goal.returns-clause-ok
returns-clause-ok c =
    one_put key_total key_tied c.self.inside.of.entries c.insert.new.self.entries c.args.key c.args.write
    c.in_ok-insert.ensures.updates.0 ∙ ap (λ m. map.insert m c.args.key c.args.write) c.self.view_is
