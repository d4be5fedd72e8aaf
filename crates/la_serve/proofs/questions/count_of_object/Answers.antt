use Rattle.std.proofs.Common.{◌≡◌, ◌+◌, true, false, sym, ◌∙◌, arith}
use Rattle.std.proofs.lemmas.Bool.{eq-eqb, ne_eqb}
use Rattle.la_serve.proofs.Tallies.{count_more}
use Rattle.la_serve.proofs.questions.count_of_object.Goals as goal
use Rattle.la_serve.proofs.questions.count_of_object.Goals.{then-update-object, else-update-object}

pub loop-number-preserved : goal.loop-number-preserved
loop-number-preserved c =
    let i = c.loop-number.invariant in
    let set = c.args.set.now in
    let many = c.loop-number.count in
    let u = c.in-Some.update.now in
    elim c.if-update-object.branch [
      | then-update-object w ↦ (
        w.count-is
            ∙ count_more set c.args.replica c.loop-number.number many c.args.object u true
            (sym c.in-Some.ensures) i.0 (sym (eq-eqb u.object c.args.object w.if-update-object.true)),
        omega (arith, w.count-is, i.1),
      )
      | else-update-object w ↦
          let none : many ≡ many + 0 = omega arith in (
            w.count-is ∙ none
                ∙ count_more set c.args.replica c.loop-number.number many c.args.object u false
                (sym c.in-Some.ensures) i.0 (sym (ne_eqb u.object c.args.object w.if-update-object.false)),
            omega (arith, w.count-is, i.1),
          )
    ]
