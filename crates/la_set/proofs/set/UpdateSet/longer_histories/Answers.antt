use Rattle.std.proofs.Common.{refl}
use Rattle.la_set.specs.Join.{join}
use Rattle.la_set.proofs.Joining.{join-within}
use Rattle.la_set.proofs.Representation.{eight_each, represented-from, IsRepresentation-from}
use Rattle.la_set.proofs.set.UpdateSet.longer_histories.Goals as goal

pub returns-clause-keeps : goal.returns-clause-keeps
returns-clause-keeps c =
    let s = c.args.self.now in let t = c.args.other.now in
    IsRepresentation-from _ (join s t) refl
    (eight_each (join s t) _ _ _ _ _ _ _ _ c.in_ok-longer_history.ensures c.in_ok-longer_history-2.ensures
    c.in_ok-longer_history-3.ensures c.in_ok-longer_history-4.ensures c.in_ok-longer_history-5.ensures
    c.in_ok-longer_history-6.ensures c.in_ok-longer_history-7.ensures c.in_ok-longer_history-8.ensures)
    (join-within s t c.allocator.ensures (λ r lt. c.allocator-2.ensures r))

pub returns-clause-join : goal.returns-clause-join
returns-clause-join c =
    represented-from _ (join c.args.self.now c.args.other.now)
    (eight_each (join c.args.self.now c.args.other.now) _ _ _ _ _ _ _ _ c.in_ok-longer_history.ensures
    c.in_ok-longer_history-2.ensures c.in_ok-longer_history-3.ensures c.in_ok-longer_history-4.ensures
    c.in_ok-longer_history-5.ensures c.in_ok-longer_history-6.ensures c.in_ok-longer_history-7.ensures
    c.in_ok-longer_history-8.ensures)
