use Rattle.std.proofs.Common.{ap, sym, ◌∙◌}
use Rattle.std.specs.FinSet as set
use Rattle.la_list.specs.Orders.{id_total}
use Rattle.la_list.proofs.ids.Ids.has.Goals as goal

pub returns : goal.returns
returns c =
    c.contains.ensures ∙ sym (set.contains-from_list id_total c.self.inside.of.keys c.args.id)
    ∙ ap (λ s. set.contains s c.args.id) c.self.view_is
