use Rattle.std.proofs.Common.{rules}
use Rattle.la_object.specs.IdOrder.{id_cmp}
use Rattle.la_object.proofs.lemmas.Sorted.{sorted-keys}
use Rattle.la_object.proofs.Copies.{all_put-from_entries}
use Rattle.la_object.proofs.adds.Adds.copy.Goals as goal

pub returns : goal.returns
returns c =
    let es = c.self.inside.puts.entries in
    let whole = all_put-from_entries es (sorted-keys id_cmp es c.iter-id-items.ensures.ordered) in
    search (rules, whole, c.self.view_is)
