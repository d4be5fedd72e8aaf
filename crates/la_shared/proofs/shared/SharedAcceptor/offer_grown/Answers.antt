use Rattle.std.proofs.Common.{sym, subst}
use Rattle.la_shared.specs.Passes.{Known}
use Rattle.la_shared.specs.Bases.{AgreesWith, HasOffers}
use Rattle.la_shared.proofs.Bases.{own_agrees}
use Rattle.la_shared.proofs.shared.SharedAcceptor.offer_grown.Goals as goal

pub offer_beyond-requires-clause-agrees : goal.offer_beyond-requires-clause-agrees
offer_beyond-requires-clause-agrees g c κs within =
    let seat = c.pass.inside.seat in
    let grown = subst (λ (k : Known). HasOffers k.mine c.args.set.now) (sym c.pass.view_is) c.requires.grown in
    let agrees =
    own_agrees seat.me.0.number seat.me.0.seen seat.me.0.mine c.pass.inside.offered c.args.set.now
    c.pass.invariant.0.legal c.pass.invariant.0.own c.pass.invariant.1 grown in
    subst (λ (k : Known). AgreesWith c.pass.inside.offered k.seen c.args.set.now) c.pass.view_is agrees
