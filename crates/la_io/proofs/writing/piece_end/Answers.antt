use Rattle.std.proofs.Common.{arith}
use Rattle.std.proofs.lemmas.List.{length-take}
use Rattle.la_io.proofs.writing.piece_end.Goals as goal

pub slice_bounds-iter-end : goal.slice_bounds-iter-end
slice_bounds-iter-end c = omega (arith, length-take 4096 c.args.text.now, c.if-text-le-AS_A_WHOLE.false)

pub returns-in-Some-clause-within : goal.returns-in-Some-clause-within
returns-in-Some-clause-within c =
    omega (
      arith,
      c.in-Some.ensures.bound,
      c.iter.ensures.len,
      length-take 4096 c.args.text.now,
      c.if-text-le-AS_A_WHOLE.false,
    )
