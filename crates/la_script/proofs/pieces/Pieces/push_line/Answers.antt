use Rattle.std.proofs.Common.{◌≡◌, ◌-◌, length, arith}
use Rattle.la_script.proofs.Laying.{marked_within, line_laid, line_next}
use Rattle.la_script.proofs.pieces.Pieces.push_line.Goals as goal

pub overflow_sub-words : goal.overflow_sub-words
overflow_sub-words c =
    omega (
      arith,
      c.self.inside.words.ok.0,
      marked_within c.self.inside.marks.items c.self.inside.words.items
          c.self.inside.numbers.items c.self.inside.marked c.self.inside.ids c.self.invariant,
    )

pub invariant_of-self-2 : goal.invariant_of-self-2
invariant_of-self-2 c =
    let left : c.len.result - c.self.inside.marked ≡ length c.self.inside.words.items - c.self.inside.marked =
    omega (arith, c.self.inside.words.ok.0) in
    line_laid c.self.inside.marks.items c.add_mark.new.marks.items c.self.inside.words.items c.self.inside.numbers.items
    c.args.numbers.now c.add_mark.new.numbers.items c.self.inside.marked (c.len.result - c.self.inside.marked)
    c.self.inside.ids
    c.args.mark c.requires.line c.self.invariant left c.in_ok-add_mark.ensures.mark c.in_ok-add_mark.ensures.numbers
    c.requires.text c.len-self-inside.result (omega (arith, c.self.inside.words.ok.0))

pub returns : goal.returns
returns c =
    let left : c.len.result - c.self.inside.marked ≡ length c.self.inside.words.items - c.self.inside.marked =
    omega (arith, c.self.inside.words.ok.0) in
    line_next c.self.inside.marks.items c.add_mark.new.marks.items c.self.inside.words.items c.self.inside.numbers.items
    c.args.numbers.now c.add_mark.new.numbers.items c.self.inside.marked (c.len.result - c.self.inside.marked)
    c.self.inside.ids
    c.args.mark c.requires.line c.self.invariant left c.in_ok-add_mark.ensures.mark c.in_ok-add_mark.ensures.numbers
    c.args.self.now c.self.view_is
