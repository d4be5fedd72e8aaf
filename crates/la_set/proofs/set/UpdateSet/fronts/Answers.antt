use Rattle.std.proofs.Common.{refl, arith}
use Rattle.la_set.specs.Counts.{within}
use Rattle.la_set.proofs.Representation.{eight_each, represented-from, IsRepresentation-from}
use Rattle.la_set.proofs.lemmas.Counting.{count-within}
use Rattle.la_set.proofs.set.UpdateSet.fronts.Goals as goal

pub returns-clause-keeps : goal.returns-clause-keeps
returns-clause-keeps c =
    let s = c.args.self.now in let t = within s c.args.counts in
    IsRepresentation-from _ t refl
    (eight_each t _ _ _ _ _ _ _ _ c.in_ok-front.ensures c.in_ok-front-2.ensures c.in_ok-front-3.ensures
    c.in_ok-front-4.ensures c.in_ok-front-5.ensures c.in_ok-front-6.ensures c.in_ok-front-7.ensures
    c.in_ok-front-8.ensures)
    (λ r. omega (arith, count-within s c.args.counts c.requires.there r, c.requires.there r, c.allocator.ensures r))

pub returns-clause-fronts : goal.returns-clause-fronts
returns-clause-fronts c =
    represented-from _ (within c.args.self.now c.args.counts)
    (eight_each (within c.args.self.now c.args.counts) _ _ _ _ _ _ _ _ c.in_ok-front.ensures c.in_ok-front-2.ensures
    c.in_ok-front-3.ensures c.in_ok-front-4.ensures c.in_ok-front-5.ensures c.in_ok-front-6.ensures
    c.in_ok-front-7.ensures c.in_ok-front-8.ensures)
