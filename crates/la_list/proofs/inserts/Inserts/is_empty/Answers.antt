use Rattle.std.proofs.Common.{◌∙◌, sym}
use Rattle.la_types.proofs.lemmas.FiniteMaps.{no_entries, empty_entries}
use Rattle.la_list.specs.Orders.{moment_total}
use Rattle.la_list.proofs.inserts.Inserts.is_empty.Goals as goal

pub returns : goal.returns
returns c = (
  λ t. sym c.self.view_is ∙ no_entries moment_total c.self.inside.of.entries (c.is_empty.ensures.0 t),
  λ e. c.is_empty.ensures.1 (empty_entries moment_total c.self.inside.of.entries (c.self.view_is ∙ e)),
)
