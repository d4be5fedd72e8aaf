use Rattle.std.proofs.Common.{rules}
use Rattle.std.specs.Ordering.{nat_cmp}
use Rattle.std.specs.Cmp.Lexicographic.{slice_cmp}
use Rattle.la_types.specs.KeyOrder.{key_total, key_tied}
use Rattle.la_types.proofs.lemmas.FiniteMaps.{sorted-keys, all_put-from_entries}
use Rattle.la_types.proofs.keyed.KeyedWrites.copy.Goals as goal

pub returns : goal.returns
returns c =
    let es = c.self.inside.of.entries in
    let whole = all_put-from_entries key_total key_tied es (sorted-keys
    (slice_cmp nat_cmp) es c.iter-key-items.ensures.ordered) in
    search (rules, whole, c.self.view_is)
