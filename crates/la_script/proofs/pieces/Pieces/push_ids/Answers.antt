use Rattle.std.proofs.Common.{◌≡◌, ◌<◌, ◌-◌, ◌++◌, length, set, append-nil, ap, sym, ◌∙◌, arith}
use Rattle.std.specs.Str.{IsUtf8}
use Rattle.la_script.specs.Pieces.{front}
use Rattle.la_script.specs.Laid.{AreIds, IsLaid}
use Rattle.la_script.proofs.IdFronts.{front_none, front-utf8}
use Rattle.la_script.proofs.Laying.{grown_whose, grown_laid, grown_ready, marked_within, laid_same, laid_if, text_if, ids_laid, ids_next}
use Rattle.la_script.proofs.pieces.Pieces.push_ids.Goals as goal
use Rattle.la_script.proofs.pieces.Pieces.push_ids.Goals.{In_ok-grow}

pub returns-then-count-eq0 : goal.returns-then-count-eq0
returns-then-count-eq0 c =
    sym (append-nil c.args.self.now)
    ∙ ap (λ t. c.args.self.now ++ t) (front_none c.args.behind c.args.replica c.args.count c.if-count-eq0.true)

there : (c : In_ok-grow) → c.args.replica < length c.self.inside.ids
there c = omega arith

laid : (c : In_ok-grow)
    → IsLaid c.self.inside.marks.items c.self.inside.words.items c.self.inside.numbers.items c.self.inside.marked
    (set c.self.inside.ids c.args.replica c.grow.new.self)
laid c =
    grown_laid c.self.inside.marks.items c.self.inside.words.items c.self.inside.numbers.items c.self.inside.marked
    c.self.inside.ids c.args.replica c.index-self-replica.result c.grow.new.self c.self.invariant c.requires (there c)
    c.in_ok-grow.ensures.same c.in_ok-grow.ensures.more

whose : (c : In_ok-grow) → c.grow.new.self.0 ≡ c.args.replica
whose c =
    grown_whose c.self.inside.marks.items c.self.inside.words.items c.self.inside.numbers.items c.self.inside.marked
    c.self.inside.ids c.args.replica c.index-self-replica.result c.grow.new.self c.self.invariant c.requires (there c)
    c.in_ok-grow.ensures.same c.in_ok-grow.ensures.more

ready : (c : In_ok-grow) → AreIds (set c.self.inside.ids c.args.replica c.grow.new.self) c.args.replica c.args.count
ready c =
    grown_ready c.self.inside.marks.items c.self.inside.words.items c.self.inside.numbers.items c.self.inside.marked
    c.self.inside.ids c.args.replica c.index-self-replica.result c.grow.new.self c.self.invariant c.requires (there c)
    c.in_ok-grow.ensures.same c.in_ok-grow.ensures.more c.args.count (omega arith) c.in_ok-grow.ensures.enough

utf8 : (c : In_ok-grow) → IsUtf8 (front c.args.behind c.args.replica c.args.count)
utf8 c = front-utf8 c.args.behind c.args.replica c.args.count (omega (arith, c.requires)) (omega arith)

pub invariant_of-self-then-ids-lt-SHORT : goal.invariant_of-self-then-ids-lt-SHORT
invariant_of-self-then-ids-lt-SHORT c =
    let g : In_ok-grow = (goal.at-invariant_of-self-then-ids-lt-SHORT c).In_ok-grow in
    laid_if c.extend_from_slice.result c.self.inside.marks.items c.self.inside.words.items c.front-ids.result.now
    (front c.args.behind c.args.replica c.args.count) c.extend_from_slice.new.self.items c.self.inside.numbers.items
    c.self.inside.marked (set c.self.inside.ids c.args.replica c.grow.new.self)
    (laid g) (c.front-ids.ensures ∙ ap (λ r. front c.args.behind r c.args.count) (whose g)) (utf8 g)
    c.extend_from_slice.ensures.items

pub returns-then-ids-lt-SHORT : goal.returns-then-ids-lt-SHORT
returns-then-ids-lt-SHORT c =
    let g : In_ok-grow = (goal.at-returns-then-ids-lt-SHORT c).In_ok-grow in
    text_if c.extend_from_slice.result c.self.inside.marks.items c.self.inside.words.items c.front-ids.result.now
    (front c.args.behind c.args.replica c.args.count) c.extend_from_slice.new.self.items c.self.inside.numbers.items
    c.self.inside.marked (set c.self.inside.ids c.args.replica c.grow.new.self)
    c.args.self.now (laid g) (c.front-ids.ensures ∙ ap (λ r. front c.args.behind r c.args.count) (whose g))
    c.self.view_is c.extend_from_slice.ensures.items

pub invariant_of-self : goal.invariant_of-self
invariant_of-self c =
    grown_laid c.self.inside.marks.items c.self.inside.words.items c.self.inside.numbers.items c.self.inside.marked
    c.self.inside.ids c.args.replica c.index-self-replica.result c.grow.new.self c.self.invariant c.requires
    (omega arith) c.in_err-grow.ensures.same c.in_err-grow.ensures.more

pub overflow_sub-words : goal.overflow_sub-words
overflow_sub-words c =
    omega (
      arith,
      c.self.inside.words.ok.0,
      marked_within c.self.inside.marks.items c.self.inside.words.items
          c.self.inside.numbers.items c.self.inside.marked c.self.inside.ids c.self.invariant,
    )

pub invariant_of-self-in_err-add_mark : goal.invariant_of-self-in_err-add_mark
invariant_of-self-in_err-add_mark c =
    let g : In_ok-grow = (goal.at-invariant_of-self-in_err-add_mark c).In_ok-grow in
    laid_same c.self.inside.marks.items c.add_mark.new.marks.items c.self.inside.words.items c.self.inside.numbers.items
    c.add_mark.new.numbers.items c.self.inside.marked (set c.self.inside.ids c.args.replica c.grow.new.self)
    (laid g) c.in_err-add_mark.ensures.same_marks c.in_err-add_mark.ensures.same_numbers

pub invariant_of-self-2 : goal.invariant_of-self-2
invariant_of-self-2 c =
    let g : In_ok-grow = (goal.at-invariant_of-self-2 c).In_ok-grow in
    let left : c.len.result - c.self.inside.marked ≡ length c.self.inside.words.items - c.self.inside.marked =
    omega (arith, c.self.inside.words.ok.0) in
    ids_laid c.self.inside.marks.items c.add_mark.new.marks.items c.self.inside.words.items c.self.inside.numbers.items
    c.add_mark.new.numbers.items c.self.inside.marked (c.len.result - c.self.inside.marked)
    (set c.self.inside.ids c.args.replica c.grow.new.self)
    c.args.behind c.args.replica c.args.count c.ids_mark-mark.result c.ids_mark-mark.ensures (laid g) left
    c.in_ok-add_mark.ensures.mark c.in_ok-add_mark.ensures.numbers (ready g) (utf8 g) c.len-self-inside.result
    (omega (arith, c.self.inside.words.ok.0))

pub returns : goal.returns
returns c =
    let g : In_ok-grow = (goal.at-returns c).In_ok-grow in
    let left : c.len.result - c.self.inside.marked ≡ length c.self.inside.words.items - c.self.inside.marked =
    omega (arith, c.self.inside.words.ok.0) in
    ids_next c.self.inside.marks.items c.add_mark.new.marks.items c.self.inside.words.items c.self.inside.numbers.items
    c.add_mark.new.numbers.items c.self.inside.marked (c.len.result - c.self.inside.marked)
    (set c.self.inside.ids c.args.replica c.grow.new.self)
    c.args.behind c.args.replica c.args.count c.ids_mark-mark.result c.ids_mark-mark.ensures (laid g) left
    c.in_ok-add_mark.ensures.mark c.in_ok-add_mark.ensures.numbers c.args.self.now c.self.view_is
