use Rattle.std.proofs.Common.{◌≡◌, IfOk, refl, subst}
use Rattle.la_set.specs.Counts.{within}
use Rattle.la_set.specs.Join.{join}
use Rattle.la_set.proofs.Representation.{eight_each, represented-from, IsRepresentation-from}
use Rattle.la_set.proofs.Splicing.{whole-limit}
use Rattle.la_set.proofs.set.UpdateSet.spliced_many.Goals as goal

pub keeping-requires : goal.keeping-requires
keeping-requires c =
    let s = c.args.self.now in let t = c.args.told.now in let whole = join (within s c.args.counts) t in
    IsRepresentation-from _ whole refl
    (eight_each whole _ _ _ _ _ _ _ _ c.in_ok-spliced_list.ensures c.in_ok-spliced_list-2.ensures
    c.in_ok-spliced_list-3.ensures c.in_ok-spliced_list-4.ensures c.in_ok-spliced_list-5.ensures
    c.in_ok-spliced_list-6.ensures c.in_ok-spliced_list-7.ensures c.in_ok-spliced_list-8.ensures)
    (whole-limit s t c.args.counts c.requires.mine c.requires.theirs c.allocator-2.ensures)

pub returns : goal.returns
returns c =
    let whole = join (within c.args.self.now c.args.counts) c.args.told.now in
    subst (λ s. IfOk c.keeping.result (λ set. set ≡ s))
    (represented-from _ whole
    (eight_each whole _ _ _ _ _ _ _ _ c.in_ok-spliced_list.ensures c.in_ok-spliced_list-2.ensures
    c.in_ok-spliced_list-3.ensures c.in_ok-spliced_list-4.ensures c.in_ok-spliced_list-5.ensures
    c.in_ok-spliced_list-6.ensures c.in_ok-spliced_list-7.ensures c.in_ok-spliced_list-8.ensures))
    c.keeping.ensures
