use Rattle.std.proofs.Common.{arith, ℕ}
use Rattle.std.proofs.lemmas.List.{length-append}
use Rattle.la_io.proofs.Taken.{takes_more, takes_no_more, takes_so_many, reads_on}
use Rattle.la_io.proofs.streams.read_all.Goals as goal

pub returns-in_err-extend_from_slice-clause-taken : goal.returns-in_err-extend_from_slice-clause-taken
returns-in_err-extend_from_slice-clause-taken g c =
    takes_more _ _ _ _ _ _ c.loop.invariant.read c.in_ok-bytes.ensures.read
    (omega (arith, c.loop.invariant.short, c.in_ok-bytes.ensures.most, c.min-room.ensures, c.len.ensures))

pub returns-in_err-bytes-clause-taken : goal.returns-in_err-bytes-clause-taken
returns-in_err-bytes-clause-taken g c = grind (arith, takes_no_more)

pub returns-then-is_empty-clause-taken : goal.returns-then-is_empty-clause-taken
returns-then-is_empty-clause-taken g c =
    takes_more _ _ _ _ _ _ c.loop.invariant.read c.in_ok-bytes.ensures.read
    (omega (arith, c.loop.invariant.short, c.in_ok-bytes.ensures.most, c.min-room.ensures, c.len.ensures))

pub returns-then-len-gt-LIMIT-clause-long : goal.returns-then-len-gt-LIMIT-clause-long
returns-then-len-gt-LIMIT-clause-long g c =
    λ _.
    takes_so_many _ _ _ _ _ _ c.loop.invariant.read c.in_ok-bytes.ensures.read
    (omega (
      arith,
      length-append {A = ℕ},
      c.loop.invariant.short,
      c.in_ok-bytes.ensures.most,
      c.min-room.ensures,
      c.len.ensures,
      c.len-in-loop.ensures,
      c.in_ok-extend_from_slice.ensures,
    ))

pub returns-then-len-gt-LIMIT-clause-taken : goal.returns-then-len-gt-LIMIT-clause-taken
returns-then-len-gt-LIMIT-clause-taken g c =
    takes_more _ _ _ _ _ _ c.loop.invariant.read c.in_ok-bytes.ensures.read
    (omega (arith, c.loop.invariant.short, c.in_ok-bytes.ensures.most, c.min-room.ensures, c.len.ensures))

pub loop-preserved : goal.loop-preserved
loop-preserved g c = grind (arith, reads_on)
