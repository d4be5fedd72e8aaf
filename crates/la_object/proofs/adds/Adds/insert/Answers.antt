use Rattle.std.proofs.Common.{◌∙◌, ap}
use Rattle.std.specs.FinMap as map
use Rattle.la_object.proofs.lemmas.IdOrder.{id_cmp_total, id_cmp-IsAntisymmetric}
use Rattle.la_object.proofs.lemmas.Sorted.{one_put}
use Rattle.la_object.proofs.adds.Adds.insert.Goals as goal

pub returns-clause-ok : goal.returns-clause-ok
returns-clause-ok c =
    one_put id_cmp_total id_cmp-IsAntisymmetric c.self.inside.puts.entries c.insert.new.self.entries c.args.id
    c.args.element c.in_ok-insert.ensures.updates.0 ∙ ap (λ m. map.insert m c.args.id c.args.element) c.self.view_is
