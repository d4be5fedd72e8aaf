use Rattle.std.proofs.Common.{inl, inr, ⊎_elim, arith}
use Rattle.la_disk.proofs.file_disk.FileDiskDisk.append.Goals as goal

pub returns-then-is_err-clause-time : goal.returns-then-is_err-clause-time
returns-then-is_err-clause-time g c =
    let first = c.append.ensures.time in
    let second = c.fail.ensures.time in
    record {
      later = omega (arith, first.later, second.later);
      nothing_else =
          λ t f le left.
          ⊎_elim
          (λ was. ⊎_elim (λ old. inl old) (λ now. inr (c.fail.ensures.still f now)) (first.nothing_else t f le was))
          (λ now. inr now) (second.nothing_else t f (omega (arith, le, first.later)) left);
      keeps = λ t f le was. second.keeps t f (omega (arith, le, first.later)) (first.keeps t f le was);
    }
