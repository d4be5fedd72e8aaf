use Rattle.std.proofs.Common.{ap, sym, ◌∙◌, subst, arith}
use Rattle.la_set.specs.Counts.{count_in}
use Rattle.la_set.specs.Representation.{Splices, spliced_at}
use Rattle.la_set.proofs.Splicing.{few-splices, spliced-keeps, spliced-is}
use Rattle.la_set.proofs.set.UpdateSet.spliced_few.Goals as goal

pub spliced_at-requires-clause-splices : goal.spliced_at-requires-clause-splices
spliced_at-requires-clause-splices c =
    let mine = c.in-Some.mine.now in let next = c.in-Some-few.next.now in let beside = c.in-Some-few-2.beside.now in
    subst (λ n. Splices mine next beside 0 n c.of-2.result) (sym c.of.ensures)
    (subst (Splices mine next beside 0 (count_in c.args.counts 0)) (sym c.of-2.ensures)
    (few-splices c.args.self.now c.args.told.now mine next c.in-Some.ensures.set c.in-Some-few.ensures.set
    c.in-Some.ensures.keeps c.in-Some-few.ensures.keeps c.args.counts c.requires.there.0 c.requires.there.1
    c.args.other.now beside c.args.known c.in-Some-few-2.ensures.set c.in-Some-few-2.ensures.keeps c.requires.known
    c.allocator.ensures 0 (omega arith)))

pub spliced_at-requires-2-clause-splices : goal.spliced_at-requires-2-clause-splices
spliced_at-requires-2-clause-splices c =
    let mine = c.in-Some.mine.now in let next = c.in-Some-few.next.now in let beside = c.in-Some-few-2.beside.now in
    subst (λ n. Splices mine next beside 1 n c.of-4.result) (sym c.of-3.ensures)
    (subst (Splices mine next beside 1 (count_in c.args.counts 1)) (sym c.of-4.ensures)
    (few-splices c.args.self.now c.args.told.now mine next c.in-Some.ensures.set c.in-Some-few.ensures.set
    c.in-Some.ensures.keeps c.in-Some-few.ensures.keeps c.args.counts c.requires.there.0 c.requires.there.1
    c.args.other.now beside c.args.known c.in-Some-few-2.ensures.set c.in-Some-few-2.ensures.keeps c.requires.known
    c.allocator.ensures 1 (omega arith)))

pub spliced_at-requires-3-clause-splices : goal.spliced_at-requires-3-clause-splices
spliced_at-requires-3-clause-splices c =
    let mine = c.in-Some.mine.now in let next = c.in-Some-few.next.now in let beside = c.in-Some-few-2.beside.now in
    subst (λ n. Splices mine next beside 2 n c.of-6.result) (sym c.of-5.ensures)
    (subst (Splices mine next beside 2 (count_in c.args.counts 2)) (sym c.of-6.ensures)
    (few-splices c.args.self.now c.args.told.now mine next c.in-Some.ensures.set c.in-Some-few.ensures.set
    c.in-Some.ensures.keeps c.in-Some-few.ensures.keeps c.args.counts c.requires.there.0 c.requires.there.1
    c.args.other.now beside c.args.known c.in-Some-few-2.ensures.set c.in-Some-few-2.ensures.keeps c.requires.known
    c.allocator.ensures 2 (omega arith)))

pub spliced_at-requires-4-clause-splices : goal.spliced_at-requires-4-clause-splices
spliced_at-requires-4-clause-splices c =
    let mine = c.in-Some.mine.now in let next = c.in-Some-few.next.now in let beside = c.in-Some-few-2.beside.now in
    subst (λ n. Splices mine next beside 3 n c.of-8.result) (sym c.of-7.ensures)
    (subst (Splices mine next beside 3 (count_in c.args.counts 3)) (sym c.of-8.ensures)
    (few-splices c.args.self.now c.args.told.now mine next c.in-Some.ensures.set c.in-Some-few.ensures.set
    c.in-Some.ensures.keeps c.in-Some-few.ensures.keeps c.args.counts c.requires.there.0 c.requires.there.1
    c.args.other.now beside c.args.known c.in-Some-few-2.ensures.set c.in-Some-few-2.ensures.keeps c.requires.known
    c.allocator.ensures 3 (omega arith)))

pub keeping_few-requires : goal.keeping_few-requires
keeping_few-requires c =
    let mine = c.in-Some.mine.now in let next = c.in-Some-few.next.now in
    spliced-keeps c.args.self.now c.args.told.now mine next c.in-Some.ensures.set c.in-Some-few.ensures.set
    c.in-Some.ensures.keeps c.in-Some-few.ensures.keeps c.args.counts c.requires.there.0 c.requires.there.1 _ _ _ _
    c.of-9.result c.of-9.ensures (c.in_ok-spliced_at.ensures ∙ ap (spliced_at mine next 0) c.of.ensures)
    (c.in_ok-spliced_at-2.ensures ∙ ap (spliced_at mine next 1) c.of-3.ensures)
    (c.in_ok-spliced_at-3.ensures ∙ ap (spliced_at mine next 2) c.of-5.ensures)
    (c.in_ok-spliced_at-4.ensures ∙ ap (spliced_at mine next 3) c.of-7.ensures)
    c.allocator.ensures

pub returns : goal.returns
returns c =
    let mine = c.in-Some.mine.now in let next = c.in-Some-few.next.now in
    c.in_ok-keeping_few.ensures
    ∙ spliced-is c.args.self.now c.args.told.now mine next c.in-Some.ensures.set c.in-Some-few.ensures.set
    c.in-Some.ensures.keeps c.in-Some-few.ensures.keeps c.args.counts c.requires.there.0 c.requires.there.1 _ _ _ _
    c.of-9.result c.of-9.ensures (c.in_ok-spliced_at.ensures ∙ ap (spliced_at mine next 0) c.of.ensures)
    (c.in_ok-spliced_at-2.ensures ∙ ap (spliced_at mine next 1) c.of-3.ensures)
    (c.in_ok-spliced_at-3.ensures ∙ ap (spliced_at mine next 2) c.of-5.ensures)
    (c.in_ok-spliced_at-4.ensures ∙ ap (spliced_at mine next 3) c.of-7.ensures)
