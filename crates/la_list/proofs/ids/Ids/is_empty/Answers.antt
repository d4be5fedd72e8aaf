use Rattle.std.proofs.Common.{sym, ◌∙◌}
use Rattle.la_list.proofs.IdSets.{no_ids, of_no_ids}
use Rattle.la_list.proofs.ids.Ids.is_empty.Goals as goal

pub returns : goal.returns
returns c = (
  λ t. sym c.self.view_is ∙ no_ids c.self.inside.of.keys (c.is_empty.ensures.0 t),
  λ e. c.is_empty.ensures.1 (of_no_ids c.self.inside.of.keys (c.self.view_is ∙ e)),
)
