use Rattle.std.proofs.Common.{[], get_or, take, sym, subst, arith}
use Rattle.la_set.specs.Representation.{IsFront}
use Rattle.la_set.proofs.Growing.{take-front}
use Rattle.la_set.proofs.lists.FourLists.longer_at.Goals as goal

pub returns-then-len-known : goal.returns-then-len-known
returns-then-len-known c =
    let mine = get_or c.args.self.now c.args.place [] in
    subst (IsFront (take c.args.len mine)) (sym c.link.ensures) (take-front mine c.args.len)

pub returns-then-len_of : goal.returns-then-len_of
returns-then-len_of c =
    let theirs = get_or c.args.other.now c.args.place [] in
    subst (IsFront (take c.args.len (get_or c.args.self.now c.args.place []))) (sym c.link-then-len_of.ensures)
    (subst (λ us. IsFront us theirs) (sym (c.requires.alike (omega (arith, c.if-len-known.false))))
    (take-front theirs c.args.len))

pub returns-else-len_of : goal.returns-else-len_of
returns-else-len_of c =
    let mine = get_or c.args.self.now c.args.place [] in
    subst (IsFront (take c.args.len mine)) (sym c.link-else-len_of.ensures) (take-front mine c.args.len)
