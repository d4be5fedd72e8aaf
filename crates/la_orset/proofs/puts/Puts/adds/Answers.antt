use Rattle.std.proofs.Common.{◌<◌, ◌+◌, length, drop, map as list_map, sym, ap, ◌∙◌, arith}
use Rattle.la_orset.specs.Puts.{adds_of, row_entry, entries_from, all_added}
use Rattle.la_orset.proofs.Copied.{entries-next, entries-end, all_added-append, adds_copied}
use Rattle.la_orset.proofs.puts.Puts.adds.Goals as goal

pub loop-place-preserved : goal.loop-place-preserved
loop-place-preserved c =
    let columns = c.self.inside.by_replica.items in let k = c.loop-place.place in let rows = c.index.result.now in
    let lt : k < length columns =
    omega (arith, c.loop-place-test.true, c.len-place-end.ensures, c.self.inside.by_replica.ok) in
    let rest = entries_from (k + 1) (drop (k + 1) columns) in
    ap (λ m. all_added m rest)
    (c.in_ok-add_rows.ensures
    ∙ ap (λ rs. all_added c.loop-place.adds (list_map (row_entry k) rs)) c.as_slice.ensures.rows)
    ∙ sym (all_added-append c.loop-place.adds (list_map (row_entry k) rows) rest)
    ∙ ap (all_added c.loop-place.adds) (sym (entries-next k columns rows lt c.index.ensures))
    ∙ c.loop-place.invariant

pub returns : goal.returns
returns c =
    let columns = c.self.inside.by_replica.items in let k = c.loop-place.place in
    let end =
    entries-end k columns
    (omega (arith, c.loop-place-test.false, c.len-place-end.ensures, c.self.inside.by_replica.ok)) in
    ap (all_added c.loop-place.adds) (sym end) ∙ c.loop-place.invariant ∙ adds_copied (entries_from 0 columns)
    ∙ ap adds_of c.self.view_is
