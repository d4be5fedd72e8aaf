use Rattle.std.proofs.Common.{◌≡◌, ℕ, ◌*◌, arith, take, length-set, sym, ◌∙◌, ap}
use Rattle.std.proofs.lemmas.List.{take_all}
use Rattle.la_journal.specs.Records.{hex}
use Rattle.la_journal.proofs.Digests.{hex-more}
use Rattle.la_journal.proofs.records.first_digits.Goals as goal

pub loop-i-preserved : goal.loop-i-preserved
loop-i-preserved c = record {
  long = omega (arith, c.loop-i.invariant.long, length-set {A = ℕ});
  so =
      hex-more c.args.bytes.now c.loop-i.digits c.loop-i.i c.digit.result c.digit-in-loop-i.result
      (omega (arith, c.told-bytes)) (omega (arith, c.loop-i.invariant.long)) c.loop-i.invariant.so c.digit.ensures
      c.digit-in-loop-i.ensures;
}

pub returns : goal.returns
returns c =
    let end : c.loop-i.i ≡ 8 = omega arith in
    sym (take_all 16 c.loop-i.digits (omega (arith, c.loop-i.invariant.long)))
    ∙ ap (λ (n : ℕ). take (2 * n) c.loop-i.digits) (sym end)
    ∙ c.loop-i.invariant.so
    ∙ ap (λ (n : ℕ). hex (take n c.args.bytes.now)) end
