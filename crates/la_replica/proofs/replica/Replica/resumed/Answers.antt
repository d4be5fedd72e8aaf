use Rattle.std.proofs.Common.{ap, sym, ◌∙◌}
use Rattle.la_replica.specs.Resuming.{replica_from, may_resume_replica}
use Rattle.la_replica.proofs.Resuming.{resumes}
use Rattle.la_replica.proofs.replica.Replica.resumed.Goals as goal

pub invariant_of-replica : goal.invariant_of-replica
invariant_of-replica c =
    resumes (replica_from c.args.votes c.args.own c.args.instances.items c.args.view) c.zero.result
    c.zero-2.result c.zero-3.result c.zero.ensures c.zero-2.ensures c.zero-3.ensures
    (sym (ap (λ xs. may_resume_replica (replica_from c.args.votes c.args.own xs c.args.view)) c.deref.ensures.value)
    ∙ sym (c.may_resume.ensures c.args.view)
    ∙ c.if-not-may_resume.false)
