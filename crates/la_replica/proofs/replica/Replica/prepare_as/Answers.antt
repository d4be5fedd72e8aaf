use Rattle.std.proofs.Common.{◌≡◌, slice_get, Some, IsSomeAnd, subst}
use Rattle.la_proposer.specs.Majority.{votes_of}
use Rattle.la_replica.specs.declared.instance.Instance.{Instance}
use Rattle.la_replica.specs.Whole.{lent_message, lent_body}
use Rattle.la_replica.specs.Memory.{IsFreeMessage}
use Rattle.la_replica.specs.Changes.{candidate, is_taken, IsVerdictOn}
use Rattle.la_replica.specs.Invariant.{IsReplicaState}
use Rattle.la_replica.specs.ReplicaState.{ReplicaState}
use Rattle.la_replica.proofs.Receiving.{there_by, message_prepared}
use Rattle.la_replica.proofs.replica.Replica.prepare_as.Goals as goal

pub returns-clause-ok : goal.returns-clause-ok
returns-clause-ok c =
    let m : ReplicaState = record { votes = votes_of c.self.inside.votes; own = c.self.inside.own; instances = c.self.inside.instances.items; view = c.self.inside.view } in
    let r = c.args.self.now in let x = c.index-at.result.now in let message = lent_message c.args.message in
    let there : slice_get r.instances c.args.message.instance ≡ Some x =
    there_by m r c.self.view_is c.args.message.instance x
    (λ z. IsVerdictOn z message c.args.verdict (lent_body c.args.message.body)) c.requires.verdict c.index-at.ensures in
    let decided = λ (z : Instance). c.args.taken ≡ is_taken r.view (candidate z c.args.verdict message) in
    message_prepared r x message (subst IsReplicaState c.self.view_is c.self.invariant.0) there c.sender-sender.result
    c.sender-sender.ensures c.args.verdict c.args.taken (subst (λ o. IsSomeAnd o decided) there c.requires.taken)
    c.prepare.result c.prepare.ensures.ok c.prepare.ensures.told

pub returns-clause-free : goal.returns-clause-free
returns-clause-free c free =
    let m : ReplicaState = record { votes = votes_of c.self.inside.votes; own = c.self.inside.own; instances = c.self.inside.instances.items; view = c.self.inside.view } in
    let r = c.args.self.now in let x = c.index-at.result.now in let message = lent_message c.args.message in
    let there : slice_get r.instances c.args.message.instance ≡ Some x =
    there_by m r c.self.view_is c.args.message.instance x
    (λ z. IsVerdictOn z message c.args.verdict (lent_body c.args.message.body)) c.requires.verdict c.index-at.ensures in
    let decided = λ (z : Instance). c.args.taken ≡ is_taken r.view (candidate z c.args.verdict message) in
    c.prepare.ensures.free r.view (subst (λ o. IsSomeAnd o decided) there c.requires.taken)
    (subst (λ o. IsSomeAnd o (λ z. IsFreeMessage z r.view message)) there free.1)
