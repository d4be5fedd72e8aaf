use Rattle.std.proofs.Common.{Bool, sym, ap, ◌&&◌, ◌∙◌}
use Rattle.la_set.specs.declared.update.UpdateId.{UpdateId}
use Rattle.la_set.specs.Histories.{get}
use Rattle.la_serve.specs.Takes.{is_put}
use Rattle.la_serve.proofs.Tallies.{tags_more}
use Rattle.la_serve.proofs.taking.all_put.Goals as goal
use Rattle.la_serve.proofs.taking.all_put.Goals.{then-all, else-all}

pub loop-place-preserved : goal.loop-place-preserved
loop-place-preserved c =
    let puts : UpdateId → Bool = λ id. is_put c.args.object c.args.element (get c.args.view.now id) in
    let tag = c.in-Some.tag.now in
    let more = tags_more puts c.args.tags.now c.loop-place.place tag c.loop-place.all (sym c.in-Some.ensures)
    c.loop-place.invariant in
    elim c.if-all.branch [
      | then-all w ↦
          w.all-is ∙ w.is_put-all.ensures ∙ sym (ap (λ b. b && puts tag) w.if-all.true) ∙ more
      | else-all w ↦ w.all-is ∙ w.if-all.false ∙ sym (ap (λ b. b && puts tag) w.if-all.false) ∙ more
    ]
