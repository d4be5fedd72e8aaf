use Rattle.la_script.proofs.Laying.{laid_if, text_if}
use Rattle.la_script.proofs.pieces.Pieces.push_str.Goals as goal

pub invariant_of-self : goal.invariant_of-self
invariant_of-self c =
    laid_if c.extend_from_slice.result c.self.inside.marks.items c.self.inside.words.items c.as_bytes.result.now
    c.args.words.now c.extend_from_slice.new.self.items c.self.inside.numbers.items c.self.inside.marked
    c.self.inside.ids
    c.self.invariant c.as_bytes.ensures.value c.utf8.words c.extend_from_slice.ensures.items

pub returns : goal.returns
returns c =
    text_if c.extend_from_slice.result c.self.inside.marks.items c.self.inside.words.items c.as_bytes.result.now
    c.args.words.now c.extend_from_slice.new.self.items c.self.inside.numbers.items c.self.inside.marked
    c.self.inside.ids
    c.args.self.now c.self.invariant c.as_bytes.ensures.value c.self.view_is c.extend_from_slice.ensures.items
