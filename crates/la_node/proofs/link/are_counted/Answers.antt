use Rattle.std.proofs.Common.{sym, ap, leb, ◌&&◌, ◌∙◌}
use Rattle.la_node.specs.Links.{is_counted}
use Rattle.la_node.proofs.Looking.{one_looked_at}
use Rattle.la_node.proofs.link.are_counted.Goals as goal
use Rattle.la_node.proofs.link.are_counted.Goals.{then-all, else-all}

pub loop-place-preserved : goal.loop-place-preserved
loop-place-preserved c =
    let u = c.in-Some.update.now in
    let more = one_looked_at (is_counted c.args.counts) c.args.told.now.more c.loop-place.place u c.loop-place.all
    (sym c.in-Some.ensures) c.loop-place.invariant in
    elim c.if-all.branch [
      | then-all w ↦
          w.all-is ∙ ap (leb u.id.number) w.of.ensures
          ∙ sym (ap (λ b. b && is_counted c.args.counts u) w.if-all.true) ∙ more
      | else-all w ↦
          w.all-is ∙ w.if-all.false ∙ sym (ap (λ b. b && is_counted c.args.counts u) w.if-all.false) ∙ more
    ]
