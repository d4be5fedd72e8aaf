use Rattle.std.proofs.Common.{◌∙◌, ap}
use Rattle.std.specs.FinMap as map
use Rattle.la_object.proofs.lemmas.IdOrder.{id_cmp_total, id_cmp-IsAntisymmetric}
use Rattle.la_object.proofs.lemmas.Sorted.{one_taken}
use Rattle.la_object.proofs.adds.Adds.remove.Goals as goal

pub returns : goal.returns
returns c =
    one_taken id_cmp_total id_cmp-IsAntisymmetric c.self.inside.puts.entries c.remove.new.self.entries c.args.id
    c.remove.ensures.updates.0 ∙ ap (λ m. map.remove m c.args.id) c.self.view_is
