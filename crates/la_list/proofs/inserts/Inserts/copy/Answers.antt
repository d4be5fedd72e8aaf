use Rattle.std.proofs.Common.{rules}
use Rattle.la_types.proofs.lemmas.FiniteMaps.{sorted-keys, all_put-from_entries}
use Rattle.la_list.specs.Orders.{moment_order, moment_total, moment_tied}
use Rattle.la_list.proofs.inserts.Inserts.copy.Goals as goal

pub returns : goal.returns
returns c =
    let es = c.self.inside.of.entries in
    let whole = all_put-from_entries moment_total moment_tied es (sorted-keys moment_order es
    c.iter-moment-items.ensures.ordered) in
    search (rules, whole, c.self.view_is)
