use Rattle.std.proofs.Common.{◌∷◌, [], ◌++◌, ◌∙◌, ap, arith}
use Rattle.std.specs.Option.{option_copied}
use Rattle.la_set.specs.Links.{items_of}
use Rattle.la_set.proofs.Joining.{up_to-more}
use Rattle.la_set.proofs.algebra.catch_up.Goals as goal

pub loop-place-preserved : goal.loop-place-preserved
loop-place-preserved c =
    let mine = c.args.mine.now in let theirs = items_of (option_copied c.args.theirs) in let u = c.item.result.now in
    record {
      so_far =
          c.in_ok-push.ensures.ok
          ∙ ap (λ v. c.loop-place.mine ++ v ∷ []) c.in_ok-copy.ensures.ok
          ∙ ap (λ us. us ++ u ∷ []) c.loop-place.invariant.so_far
          ∙ up_to-more mine theirs c.loop-place.place u c.loop-place.invariant.from c.item.ensures;
      from = omega (arith, c.loop-place.invariant.from);
    }
