use Rattle.std.proofs.Common.{◌∙◌, sym, ap}
use Rattle.std.specs.FinSet as set
use Rattle.la_object.proofs.lemmas.IdOrder.{id_cmp_total}
use Rattle.la_object.proofs.ids.Ids.has.Goals as goal

pub returns : goal.returns
returns c =
    c.contains.ensures ∙ sym (set.contains-from_list id_cmp_total c.self.inside.ids.keys c.args.id)
    ∙ ap (λ s. set.contains s c.args.id) c.self.view_is
