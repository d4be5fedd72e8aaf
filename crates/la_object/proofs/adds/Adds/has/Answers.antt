use Rattle.std.proofs.Common.{◌∙◌, sym, ap, is_some}
use Rattle.std.specs.FinMap as map
use Rattle.la_object.proofs.lemmas.IdOrder.{id_cmp_total}
use Rattle.la_object.proofs.lemmas.Sorted.{get-lookup}
use Rattle.la_object.proofs.adds.Adds.has.Goals as goal

pub returns : goal.returns
returns c =
    c.contains_key.ensures ∙ ap is_some (sym (get-lookup id_cmp_total c.self.inside.puts.entries c.args.id))
    ∙ ap (λ m. map.contains_key m c.args.id) c.self.view_is
