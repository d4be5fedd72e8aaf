use Rattle.std.proofs.Common.{subst, true, ◌≡◌}
use Rattle.la_replica.specs.Fields.{stands_for}
use Rattle.la_replica.specs.Resuming.{may_resume_replica}
use Rattle.la_replica.proofs.Resuming.{replicas_resume}
use Rattle.la_replica.proofs.replica.Replica.instances.Goals as goal

pub returns-clause-resumable : goal.returns-clause-resumable
returns-clause-resumable c =
    subst (λ r. may_resume_replica r ≡ true) c.self.view_is
    (replicas_resume (stands_for c.self.inside) c.self.inside.agreed
    (c.self.invariant.0, c.self.invariant.1.0))
