use Rattle.std.proofs.Common.{[], ◌++◌, map, length, ap, ap₂, sym, ◌∙◌}
use Rattle.la_set.specs.Representation.{four_of, lengths_of}
use Rattle.la_set.specs.Kept.{lists_of}
use Rattle.la_set.proofs.Fours.{four-counts}
use Rattle.la_set.proofs.kept.Kept.counts.Goals as goal

pub returns-in-Few : goal.returns-in-Few
returns-in-Few c =
    let low = c.in-Few.of.value in
    four-counts c.of_fours.result low []
    (c.of_fours.ensures
    ∙ ap (λ ns. ns ++ map length (four_of []))
    (c.lens.ensures ∙ ap (λ lists. map length (four_of lists)) c.deref.ensures))
    ∙ sym (ap (λ kept. lengths_of (lists_of kept)) c.in-Few.is)

pub returns-in-Many : goal.returns-in-Many
returns-in-Many c =
    let eight = c.in-Many.of.value in
    four-counts c.of_fours-in-Many.result eight.low eight.high
    (c.of_fours-in-Many.ensures
    ∙ ap₂ (λ ms ns. ms ++ ns) (c.lens-in-Many.ensures ∙ ap (λ lists. map length (four_of lists.low)) c.deref-in-Many.ensures) (c.lens-in-Many-2.ensures ∙ ap (λ lists. map length (four_of lists.high)) c.deref-in-Many-2.ensures))
    ∙ sym (ap (λ kept. lengths_of (lists_of kept)) c.in-Many.is)
