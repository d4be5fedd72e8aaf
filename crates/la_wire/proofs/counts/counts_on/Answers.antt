use Rattle.std.proofs.Common.{◌≡◌, length, ◌≤◌, Ok, Err, sym, subst, ap, ◌∙◌, rules}
use Rattle.la_script.specs.Numbers.{u32_max}
use Rattle.la_wire.specs.Readings.{number_on}
use Rattle.la_wire.specs.MessageLines.{counts_on, counts_with, texts_left}
use Rattle.la_wire.proofs.CountTexts.{stops_reading, no_room, all_read}
use Rattle.la_wire.proofs.counts.counts_on.Goals as goal

pub returns-in_err-number : goal.returns-in_err-number
returns-in_err-number c =
    let none : number_on 0 u32_max c.first_text.result.0.now ≡ Err c.in_err-number.field-0.0 = search rules in
    let refused : counts_on c.args.word.now ≡ Err c.in_err-number.field-0.0 =
    stops_reading c.args.word.now c.first_text.result.0.now (texts_left c.first_text.result.1)
    (texts_left c.loop-rest.rest) c.loop-rest.numbers.items c.in_err-number.field-0.0
    (ap texts_left c.in-Some.is ∙ c.first_text.ensures) none c.loop-rest.invariant.said in
    search rules

pub returns-then-is_err : goal.returns-then-is_err
returns-then-is_err c =
    let full : length c.loop-rest.numbers.items ≡ 8 = search rules in
    sym
    (no_room c.args.word.now c.first_text.result.0.now (texts_left c.first_text.result.1)
    (texts_left c.loop-rest.rest) c.loop-rest.numbers.items (ap texts_left c.in-Some.is ∙ c.first_text.ensures) full
    c.loop-rest.invariant.many)

pub returns : goal.returns
returns c =
    let few = subst (λ ns. length ns ≤ 8) c.as_slice.ensures.value c.as_slice.ensures.fits in
    ap Ok (c.counts_with.ensures ∙ ap counts_with c.as_slice.ensures.value)
    ∙ sym
    (all_read c.args.word.now (texts_left c.loop-rest.rest) c.loop-rest.numbers.items
    (ap texts_left c.in_default.is) few c.loop-rest.invariant.said c.loop-rest.invariant.many)
