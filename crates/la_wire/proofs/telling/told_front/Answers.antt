use Rattle.std.proofs.Common.{arith, sym}
use Rattle.std.proofs.lemmas.List.{length-take-le, take_all}
use Rattle.la_wire.proofs.telling.told_front.Goals as goal

pub returns-then-word-le-TOLD_BYTES-clause-front : goal.returns-then-word-le-TOLD_BYTES-clause-front
returns-then-word-le-TOLD_BYTES-clause-front c =
    sym (take_all 32 c.args.word.now (omega (arith, c.if-word-le-TOLD_BYTES.true)))

pub slice_bounds-result-end : goal.slice_bounds-result-end
slice_bounds-result-end c =
    sym (length-take-le 32 c.args.word.now (omega (arith, c.if-word-le-TOLD_BYTES.false)))

pub returns-clause-few : goal.returns-clause-few
returns-clause-few c =
    omega (arith, length-take-le 32 c.args.word.now (omega (arith, c.if-word-le-TOLD_BYTES.false)))
