use Rattle.la_script.proofs.Laying.{laid_none, text_none, each_own}
use Rattle.la_script.proofs.pieces.Pieces.new.Goals as goal

pub invariant_of-result : goal.invariant_of-result
invariant_of-result c =
    laid_none _ _ _ _ c.new.ensures.items c.new-2.ensures.items c.new-3.ensures.items
    (each_own _ _ _ _ _ _ _ _ c.new-4.ensures c.new-5.ensures c.new-6.ensures c.new-7.ensures c.new-8.ensures
    c.new-9.ensures c.new-10.ensures c.new-11.ensures)

pub returns : goal.returns
returns c = text_none _ _ _ c.new.ensures.items c.new-2.ensures.items
