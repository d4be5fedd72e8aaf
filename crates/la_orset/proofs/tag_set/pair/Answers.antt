use Rattle.std.proofs.Common.{is_some, ap, ◌∙◌}
use Rattle.std.specs.FinMap as map
use Rattle.la_object.specs.IdOrder.{id_cmp}
use Rattle.la_orset.proofs.tag_set.pair.Goals as goal

pub insert-requires : goal.insert-requires
insert-requires c =
    ap (λ s. map.contains_key s c.args.one) c.new-list.ensures ∙ ap is_some (map.get-empty id_cmp c.args.one)
