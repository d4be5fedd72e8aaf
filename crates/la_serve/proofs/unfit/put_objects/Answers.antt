use Rattle.std.proofs.Common.{◌≡◌, ◌∙◌, ◌++◌, ℕ, List, ap, append_assoc, codes, sym}
use Rattle.std.proofs.lemmas.Result.{on_ok_weaker}
use Rattle.std.specs.Fmt.{decimal}
use Rattle.la_serve.specs.Unfit.{unfit_objects}
use Rattle.la_serve.proofs.UnfitTexts.{put_behind}
use Rattle.la_serve.proofs.unfit.put_objects.Goals as goal

pub returns-in_ok-put_decimal-in-Twice : goal.returns-in_ok-put_decimal-in-Twice
returns-in_ok-put_decimal-in-Twice c =
    let line = c.args.line.now.items in
    let name = codes "number " in
    let number = decimal c.in-Twice.number in
    let end = codes " stands twice" in
    let front : c.put_decimal.new.line.items ≡ (line ++ name) ++ number =
    c.in_ok-put_decimal-in-Twice.ensures
    ∙ (λ i. c.in_ok-extend_from_slice-in-Twice.ensures.items i ++ decimal (c.from.ensures i)) in
    on_ok_weaker c.extend_from_slice-in-Twice-2.result
    (λ is.
    is ∙ ap (λ (t : List ℕ). t ++ end) front ∙ append_assoc (line ++ name) number end
    ∙ append_assoc line name (number ++ end) ∙ ap (λ (t : List ℕ). line ++ t) (sym (ap unfit_objects c.in-Twice.is)))
    (put_behind c.extend_from_slice-in-Twice-2.result _ _ _ c.extend_from_slice-in-Twice-2.ensures.items)

pub returns-in-TooMany : goal.returns-in-TooMany
returns-in-TooMany c =
    on_ok_weaker c.extend_from_slice-in-TooMany.result
    (λ is. is ∙ ap (λ (t : List ℕ). c.args.line.now.items ++ t) (sym (ap unfit_objects c.in-TooMany.is)))
    (put_behind c.extend_from_slice-in-TooMany.result _ _ _ c.extend_from_slice-in-TooMany.ensures.items)
