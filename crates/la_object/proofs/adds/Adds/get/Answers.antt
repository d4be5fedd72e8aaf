use Rattle.std.proofs.Common.{◌∙◌, sym, ap}
use Rattle.std.specs.FinMap as map
use Rattle.la_object.proofs.lemmas.IdOrder.{id_cmp_total}
use Rattle.la_object.proofs.lemmas.Sorted.{get-lookup}
use Rattle.la_object.proofs.adds.Adds.get.Goals as goal

pub returns : goal.returns
returns c =
    c.get.ensures.value ∙ sym (get-lookup id_cmp_total c.self.inside.puts.entries c.args.id)
    ∙ ap (λ m. map.get m c.args.id) c.self.view_is
