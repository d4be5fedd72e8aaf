use Rattle.std.proofs.Common.{◌++◌, [], ◌∷◌, length, length-append, ap, ◌∙◌, arith}
use Rattle.la_orset.specs.Puts.{entries_from}
use Rattle.la_orset.proofs.Copied.{entries-nothing}
use Rattle.la_orset.proofs.puts.widen.Goals as goal

pub loop-alloc-preserved : goal.loop-alloc-preserved
loop-alloc-preserved c =
    let old = c.loop-alloc.by_replica.items in
    let items = c.in_ok-push.ensures.items ∙ ap (λ rows. old ++ rows ∷ []) c.new.ensures in (
      ap (entries_from 0) items ∙ entries-nothing 0 old ∙ c.loop-alloc.invariant.0,
      omega (
        arith,
        ap length items,
        length-append old ([] ∷ []),
        c.loop-alloc-test.true,
        c.len.ensures,
        c.loop-alloc.by_replica.ok,
        c.requires.least,
      ),
    )
