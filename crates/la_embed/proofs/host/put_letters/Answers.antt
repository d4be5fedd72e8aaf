use Rattle.std.proofs.Common.{length, refl, ap, sym, ◌∙◌, arith}
use Rattle.std.specs.Vec.Iter.{into_iter_items}
use Rattle.la_embed.specs.Hosts.{with_letters}
use Rattle.la_embed.proofs.Lists.{one_put, all_put}
use Rattle.la_embed.proofs.host.put_letters.Goals as goal

pub loop-letter-init : goal.loop-letter-init
loop-letter-init c =
    let gives = c.into_iter-letter-iterator.ensures.into_iter_gives in (
      refl,
      omega (arith, c.requires, ap length gives.0),
      omega (
        arith,
        gives.1,
        ap length gives.0,
      ),
    )

pub put_reserved-requires : goal.put_reserved-requires
put_reserved-requires c =
    omega (arith, c.loop-letter.invariant.1, ap length c.in-Some.ensures.steps.0)

pub loop-letter-preserved : goal.loop-letter-preserved
loop-letter-preserved c =
    let i = c.loop-letter.invariant in
    let steps = c.in-Some.ensures.steps in
    let put = c.put_reserved.ensures in (
      one_put c.args.own c.loop-letter.mail.items c.put_reserved.new.mail.items
          (into_iter_items c.loop-letter.letter-iterator) (into_iter_items c.next.new.self) _ c.in-Some.letter put.mail
          steps.0 i.0,
      omega (arith, i.1, put.len, put.room, ap length steps.0),
      omega (arith, i.2, steps.1, ap length steps.0),
    )

pub returns : goal.returns
returns c =
    let i = c.loop-letter.invariant in
    let gives = c.into_iter-letter-iterator.ensures.into_iter_gives in
    all_put c.args.own c.loop-letter.mail.items (into_iter_items c.loop-letter.letter-iterator) _
    (sym i.2 ∙ c.in-None.ensures.steps.0) i.0
    ∙ ap (λ ls. with_letters c.args.own c.args.mail.now.items ls) gives.0
