use Rattle.std.proofs.Common.{suc, drop, get_or, sym, ap, ◌∙◌, arith, drop-cons, drop_of_length-le}
use Rattle.la_script.proofs.CanonicalNumbers.{value_behind, value_stops, value_end}
use Rattle.la_script.proofs.numbers.digits_value.Goals as goal

pub returns-in_err-value : goal.returns-in_err-value
returns-in_err-value c =
    let word = c.args.word.now in
    let i = c.loop-byte.byte-index in
    c.from_residual.ensures
    ∙ sym (value_stops c.loop-byte.value (get_or word i 0) (drop (suc i) word) c.in_err-value.ensures)
    ∙ ap (value_behind c.loop-byte.value) (sym (drop-cons word i 0 c.loop-byte-test.true))
    ∙ c.loop-byte.invariant.so_far

pub returns : goal.returns
returns c =
    let word = c.args.word.now in
    value_end c.loop-byte.value (omega (arith, c.loop-byte.invariant.fits))
    ∙ ap (value_behind c.loop-byte.value) (sym (drop_of_length-le word c.loop-byte-test.false))
    ∙ c.loop-byte.invariant.so_far
