use Rattle.std.proofs.Common.{◌∷◌, [], ◌++◌, ◌∙◌, ap, take, arith}
use Rattle.std.specs.Option.{option_copied}
use Rattle.std.proofs.lemmas.List.{length-take}
use Rattle.la_set.specs.Links.{items_of}
use Rattle.la_set.proofs.Joining.{up_to-more, up_to-all}
use Rattle.la_set.proofs.splice.continued.Goals as goal

pub loop-place-init : goal.loop-place-init
loop-place-init c =
    let shared = c.alike_until-shared.ensures in
    record { so_far = c.in_ok-whole.ensures ∙ shared.alike; from = shared.from }

pub loop-place-preserved : goal.loop-place-preserved
loop-place-preserved c =
    let front = take c.args.len (items_of (option_copied c.args.list)) in
    let next = items_of (option_copied c.args.next) in let u = c.item.result.now in
    let from = c.loop-place.invariant.from in
    let many = length-take c.args.len (items_of (option_copied c.args.list)) in
    record {
      so_far =
          c.in_ok-push.ensures.ok
          ∙ ap (λ v. c.loop-place.whole ++ v ∷ []) c.in_ok-copy.ensures.ok
          ∙ ap (λ us. us ++ u ∷ []) c.loop-place.invariant.so_far
          ∙ up_to-more front next c.loop-place.place u (omega (arith, from, many)) c.item.ensures;
      from = omega (arith, c.loop-place.invariant.from);
    }

pub returns : goal.returns
returns c =
    c.loop-place.invariant.so_far
    ∙ up_to-all (take c.args.len (items_of (option_copied c.args.list))) (items_of (option_copied c.args.next))
    c.loop-place.place (omega arith)
