use Rattle.std.proofs.Common.{◌∙◌, ap, sym}
use Rattle.la_node.specs.Links.{reaching}
use Rattle.la_node.proofs.Looking.{one_folded}
use Rattle.la_node.proofs.link.reach_of.Goals as goal

pub loop-place-preserved : goal.loop-place-preserved
loop-place-preserved c =
    let u = c.in-Some.update.now in
    c.reaching-reach.ensures ∙ ap (λ x. reaching x u) c.loop-place.invariant
    ∙ sym (one_folded reaching c.args.delta.now.base c.args.delta.now.more c.loop-place.place u
    (sym c.in-Some.ensures))
