use Rattle.std.proofs.Common.{rules, ap, sym, subst, inr, ◌∙◌}
use Rattle.la_shared.specs.History.{HasEntry}
use Rattle.la_shared.specs.Passes.{Known}
use Rattle.la_shared.specs.Bases.{AgreesWith}
use Rattle.la_shared.proofs.Acknowledgements.{entry_stands}
use Rattle.la_shared.proofs.Bases.{agree_since}
use Rattle.la_shared.proofs.shared.SharedAcceptor.offer_beyond.Goals as goal

pub record-requires-clause-seat : goal.record-requires-clause-seat
record-requires-clause-seat g c = (search rules, (_, ap (λ m. m.0.number) c.take-acceptor.ensures.seat.1.1))

pub record-requires-clause-turn : goal.record-requires-clause-turn
record-requires-clause-turn g c = search rules

pub put_back-requires-clause-turn : goal.put_back-requires-clause-turn
put_back-requires-clause-turn g c = search rules

pub offer_beyond-requires : goal.offer_beyond-requires
offer_beyond-requires g c =
    let agrees =
    subst (λ (k : Known). AgreesWith c.args.base k.seen c.args.set.now) (sym c.pass.view_is) c.requires.agrees in
    (agree_since c.args.base c.pass.inside.seat.me.0.seen c.args.set.now _ agrees c.take-acceptor.ensures.since).same

pub invariant_of-pass : goal.invariant_of-pass
invariant_of-pass g c =
    let e = c.record.ensures.entry in
    let is = ap (λ m. m.0.mine) c.put_back.ensures.1 ∙ e.1.4 in
    let has =
    subst (λ xs. HasEntry xs c.args.set.now c.in-Ok.reply) (sym is) (entry_stands _ e.0 c.args.set.now c.in-Ok.reply)
    in
    (search rules, inr (c.args.set.now, c.in-Ok.reply, has, c.counts-pass-inside.ensures.counts))
