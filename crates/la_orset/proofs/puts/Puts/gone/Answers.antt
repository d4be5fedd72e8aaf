use Rattle.std.proofs.Common.{◌<◌, ◌≤◌, ◌+◌, length, drop, map as list_map, sym, ap, ◌∙◌, arith}
use Rattle.la_orset.specs.Puts.{gone_of, row_entry, entries_from, all_gone}
use Rattle.la_orset.proofs.Copied.{entries-next, entries-end, all_gone-append, gone_copied, ascending_more}
use Rattle.la_orset.proofs.puts.Puts.gone.Goals as goal

pub loop-place-preserved : goal.loop-place-preserved
loop-place-preserved c =
    let columns = c.self.inside.by_replica.items in let k = c.loop-place.place in let rows = c.index.result.now in
    let lt : k < length columns =
    omega (arith, c.loop-place-test.true, c.len-place-end.ensures, c.self.inside.by_replica.ok) in
    let rest = entries_from (k + 1) (drop (k + 1) columns) in (
      ap (λ m. all_gone m rest)
          (c.in_ok-name_rows.ensures
          ∙ ap (λ rs. all_gone c.loop-place.gone (list_map (row_entry k) rs)) c.as_slice.ensures.rows)
          ∙ sym (all_gone-append c.loop-place.gone (list_map (row_entry k) rows) rest)
          ∙ ap (all_gone c.loop-place.gone) (sym (entries-next k columns rows lt c.index.ensures))
          ∙ c.loop-place.invariant.0,
      ascending_more columns k rows lt c.index.ensures c.as_slice.ensures.ascending c.loop-place.invariant.1,
    )

pub returns : goal.returns
returns c =
    let columns = c.self.inside.by_replica.items in let k = c.loop-place.place in
    let le : length columns ≤ k =
    omega (arith, c.loop-place-test.false, c.len-place-end.ensures, c.self.inside.by_replica.ok) in
    ap (all_gone c.loop-place.gone) (sym (entries-end k columns le)) ∙ c.loop-place.invariant.0
    ∙ ap (λ ids. all_gone ids (entries_from 0 columns)) c.in_ok-gone.ensures
    ∙ gone_copied c.args.early.now columns (λ j within. c.loop-place.invariant.1 j (omega (arith, within, le)))
    ∙ ap (gone_of c.args.early.now) c.self.view_is
