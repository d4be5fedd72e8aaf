use Rattle.std.proofs.Common.{◌≡◌, ◌<◌, slice_get, Some, subst, rules}
use Rattle.la_proposer.specs.Majority.{votes_of}
use Rattle.la_proposer.specs.Refusals.{SubmissionSpends}
use Rattle.la_proposer.specs.ProposerState.{submitted, op_on}
use Rattle.la_replica.specs.ReplicaState.{ReplicaState}
use Rattle.la_replica.specs.Invariant.{IsReplicaState}
use Rattle.la_replica.proofs.Receiving.{there_now, ok_there, submit_refused, submission_prepared}
use Rattle.la_replica.proofs.replica.Replica.prepare_submission.Goals as goal

pub returns-in-Some-clause-ok : goal.returns-in-Some-clause-ok
returns-in-Some-clause-ok c =
    let m : ReplicaState = record { votes = votes_of c.self.inside.votes; own = c.self.inside.own; instances = c.self.inside.instances.items; view = c.self.inside.view } in
    let r = c.args.self.now in let i = c.args.instance in let x = c.in-Some.at.now in
    let there : slice_get r.instances i ≡ Some x = there_now m r c.self.view_is i x (search rules) (search rules) in
    submission_prepared r i x (op_on c.args.object c.args.op) (subst IsReplicaState c.self.view_is c.self.invariant.0)
    there c.sender-sender.result c.sender-sender.ensures c.prepare_submission.result c.prepare_submission.ensures.ok

pub returns-in-Some-clause-room : goal.returns-in-Some-clause-room
returns-in-Some-clause-room c =
    let m : ReplicaState = record { votes = votes_of c.self.inside.votes; own = c.self.inside.own; instances = c.self.inside.instances.items; view = c.self.inside.view } in
    let r = c.args.self.now in let i = c.args.instance in let x = c.in-Some.at.now in
    let there : slice_get r.instances i ≡ Some x = there_now m r c.self.view_is i x (search rules) (search rules) in
    ok_there r i x there (λ y. submitted y.proposer < y.proposer.cap) c.prepare_submission.result
    c.prepare_submission.ensures.room

pub returns-in-Some-clause-spares : goal.returns-in-Some-clause-spares
returns-in-Some-clause-spares c =
    let m : ReplicaState = record { votes = votes_of c.self.inside.votes; own = c.self.inside.own; instances = c.self.inside.instances.items; view = c.self.inside.view } in
    let r = c.args.self.now in let i = c.args.instance in let x = c.in-Some.at.now in
    let there : slice_get r.instances i ≡ Some x = there_now m r c.self.view_is i x (search rules) (search rules) in
    ok_there r i x there (λ y. ¬ SubmissionSpends y.proposer) c.prepare_submission.result
    c.prepare_submission.ensures.spares

pub returns-in-Some-clause-error : goal.returns-in-Some-clause-error
returns-in-Some-clause-error c =
    let m : ReplicaState = record { votes = votes_of c.self.inside.votes; own = c.self.inside.own; instances = c.self.inside.instances.items; view = c.self.inside.view } in
    let r = c.args.self.now in let i = c.args.instance in let x = c.in-Some.at.now in
    let there : slice_get r.instances i ≡ Some x = there_now m r c.self.view_is i x (search rules) (search rules) in
    submit_refused r i x there c.prepare_submission.result c.prepare_submission.ensures.error
