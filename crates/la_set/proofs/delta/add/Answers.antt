use Rattle.std.proofs.Common.{arith, sym, subst}
use Rattle.la_set.specs.Representation.{IsFront, lent_lists}
use Rattle.la_set.proofs.Growing.{lent-at, grown-length, grown-pushed, grown-on}
use Rattle.la_set.proofs.delta.add.Goals as goal

pub lengthen-requires-clause-room : goal.lengthen-requires-clause-room
lengthen-requires-clause-room c =
    omega (
      arith,
      c.requires.next.next,
      c.requires.next.within,
      grown-length (lent_lists c.args.lists.now) c.args.of.now c.args.own.now
          c.requires.grows c.args.update.now.id.replica c.requires.next.known c.index-of-at.result,
    )

pub returns-clause-ok : goal.returns-clause-ok
returns-clause-ok c =
    grown-pushed (lent_lists c.args.lists.now) c.args.of.now c.args.own.now c.requires.grows c.args.update.now
    c.requires.next c.index-of-at.result _ c.in_ok-own.ensures.ok

pub returns-clause-grows : goal.returns-clause-grows
returns-clause-grows c =
    let lists = c.args.lists.now in let r = c.args.update.now.id.replica in
    let at = lent-at lists r c.index-lists-at.result (omega (arith, c.told-lists, c.requires.next.known)) in
    grown-on (lent_lists lists) c.args.of.now c.args.own.now c.requires.grows c.args.update.now c.requires.next
    c.index-of-at.result _ c.in_ok-own.ensures.ok c.in_ok-own.field-0
    (λ own. subst (IsFront c.lengthen.new.list) (sym at) (c.in_ok-own.ensures.own own))
