use Rattle.std.proofs.Common.{[], ◌++◌, ap, ap₂, sym, ◌∙◌}
use Rattle.la_set.specs.Representation.{four_of}
use Rattle.la_set.proofs.Fours.{fours-are}
use Rattle.la_set.proofs.kept.Kept.keeping.Goals as goal

pub returns-then-are_empty-clause-lists : goal.returns-then-are_empty-clause-lists
returns-then-are_empty-clause-lists c =
    let low = c.halves-low.result.0 in let high = c.halves-low.result.1 in
    ap (λ lists. four_of lists ++ four_of []) (c.in_ok-of.ensures.ok ∙ c.of-low.ensures)
    ∙ ap (λ lists. four_of low ++ lists)
    (sym (c.are_empty.ensures.0 c.if-are_empty.true) ∙ ap four_of c.of-high.ensures)
    ∙ fours-are low high c.args.of c.halves-low.ensures.low c.halves-low.ensures.high c.halves-low.ensures.all

pub returns-clause-lists : goal.returns-clause-lists
returns-clause-lists c =
    let low = c.halves-low.result.0 in let high = c.halves-low.result.1 in
    ap (λ lists. four_of lists.low ++ four_of lists.high) c.in_ok-of-2.ensures.ok
    ∙ ap₂ (λ us vs. four_of us ++ four_of vs) c.of-low.ensures c.of-high.ensures
    ∙ fours-are low high c.args.of c.halves-low.ensures.low c.halves-low.ensures.high c.halves-low.ensures.all
