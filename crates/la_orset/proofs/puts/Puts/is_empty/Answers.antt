use Rattle.std.proofs.Common.{◌≡◌, ◌<◌, [], length, refl, sym, ap, ◌∙◌, arith}
use Rattle.std.specs.FinMap as map
use Rattle.std.proofs.lemmas.Bool.{false≢true}
use Rattle.std.proofs.lemmas.List.{nil_from_length}
use Rattle.la_object.specs.IdOrder.{id_cmp}
use Rattle.la_orset.proofs.Copied.{entries-skip, entries-end, some_rows}
use Rattle.la_orset.proofs.puts.Puts.is_empty.Goals as goal

pub returns-then-as_slice-gt0 : goal.returns-then-as_slice-gt0
returns-then-as_slice-gt0 c =
    let columns = c.self.inside.by_replica.items in let k = c.loop-place.place in let rows = c.index.result.now in
    let lt : k < length columns =
    omega (arith, c.loop-place-test.true, c.len-place-end.ensures, c.self.inside.by_replica.ok) in
    let some : 0 < length rows = omega (arith, c.if-as_slice-gt0.true, ap length c.as_slice.ensures.rows) in (
      λ t.
          absurd (false≢true t),
      λ e. absurd (some_rows k columns rows lt c.index.ensures some c.loop-place.invariant (c.self.view_is ∙ e)),
    )

pub loop-place-preserved : goal.loop-place-preserved
loop-place-preserved c =
    let columns = c.self.inside.by_replica.items in let k = c.loop-place.place in let rows = c.index.result.now in
    let lt : k < length columns =
    omega (arith, c.loop-place-test.true, c.len-place-end.ensures, c.self.inside.by_replica.ok) in
    let none : rows ≡ [] =
    nil_from_length rows (omega (arith, c.if-as_slice-gt0.false, ap length c.as_slice.ensures.rows)) in
    c.loop-place.invariant ∙ entries-skip k columns rows lt c.index.ensures none

pub returns : goal.returns
returns c =
    let columns = c.self.inside.by_replica.items in let k = c.loop-place.place in
    let end =
    entries-end k columns
    (omega (arith, c.loop-place-test.false, c.len-place-end.ensures, c.self.inside.by_replica.ok)) in
    (λ t. sym c.self.view_is ∙ ap (map.from_entries {R = id_cmp}) (c.loop-place.invariant ∙ end), λ e. refl)
