use Rattle.std.proofs.Common.{[], get_or, ◌%◌, ap, sym, ◌∙◌}
use Rattle.la_set.specs.Kept.{lists_of}
use Rattle.la_set.proofs.Fours.{four-low, four-high, none-eight}
use Rattle.la_set.proofs.kept.Kept.four.Goals as goal

pub returns-in-Empty : goal.returns-in-Empty
returns-in-Empty c =
    ap (λ kept. get_or (lists_of kept) c.args.replica []) c.in-Empty.is ∙ none-eight c.args.replica c.requires

pub returns-in-Few : goal.returns-in-Few
returns-in-Few c =
    ap (λ kept. get_or (lists_of kept) c.args.replica []) c.in-Few.is
    ∙ four-low c.in-Few.of.value [] c.args.replica c.if-replica-lt4.true
    ∙ ap (λ four. get_or four (c.args.replica % 4) []) (sym c.deref.ensures)

pub returns-in-Few-2 : goal.returns-in-Few-2
returns-in-Few-2 c =
    ap (λ kept. get_or (lists_of kept) c.args.replica []) c.in-Few-2.is
    ∙ four-high c.in-Few-2.of.value [] c.args.replica c.if-replica-lt4.false c.requires

pub returns-in-Many : goal.returns-in-Many
returns-in-Many c =
    let eight = c.in-Many.of.value in
    ap (λ kept. get_or (lists_of kept) c.args.replica []) c.in-Many.is
    ∙ four-low eight.low eight.high c.args.replica c.if-replica-lt4-2.true
    ∙ ap (λ lists. get_or lists.low (c.args.replica % 4) []) (sym c.deref-in-Many.ensures)

pub returns-in-Many-2 : goal.returns-in-Many-2
returns-in-Many-2 c =
    let eight = c.in-Many-2.of.value in
    ap (λ kept. get_or (lists_of kept) c.args.replica []) c.in-Many-2.is
    ∙ four-high eight.low eight.high c.args.replica c.if-replica-lt4-2.false c.requires
    ∙ ap (λ lists. get_or lists.high (c.args.replica % 4) []) (sym c.deref-in-Many-2.ensures)
