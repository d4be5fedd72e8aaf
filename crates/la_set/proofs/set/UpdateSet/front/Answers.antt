use Rattle.std.proofs.Common.{◌≡◌, IfOk, ap, take, length, get_or, [], sym, subst, ◌∙◌, arith}
use Rattle.la_set.specs.Representation.{lent_lists}
use Rattle.la_set.proofs.Growing.{begun, lent-at}
use Rattle.la_set.proofs.set.UpdateSet.front.Goals as goal

pub front_of-requires : goal.front_of-requires
front_of-requires c =
    let r = c.args.replica in let lists = c.args.lists.now in
    let at = lent-at lists r c.index-lists-replica.result (omega (arith, c.told-lists, c.requires.known)) in
    let front = begun c.args.self.now c.args.counts r _ c.requires.there (c.requires.lists r c.requires.known) in
    omega (arith, front.0, ap length at, c.of.ensures)

pub returns : goal.returns
returns c =
    let r = c.args.replica in let lists = c.args.lists.now in
    let at = lent-at lists r c.index-lists-replica.result (omega (arith, c.told-lists, c.requires.known)) in
    let front = begun c.args.self.now c.args.counts r _ c.requires.there (c.requires.lists r c.requires.known) in
    subst (λ us. IfOk c.front_of.result (λ front. front ≡ us))
    (ap (λ us. take c.of.result us) (sym at) ∙ ap (λ n. take n (get_or (lent_lists lists) r [])) c.of.ensures
    ∙ front.1)
    c.front_of.ensures
