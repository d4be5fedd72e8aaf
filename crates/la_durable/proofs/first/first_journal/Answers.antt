use Rattle.std.proofs.Common.{◌≡◌, Some, ap, subst}
use Rattle.la_replica.specs.ReplicaState.{ReplicaState}
use Rattle.la_durable.specs.Nodes.{kept_by}
use Rattle.la_durable.specs.Restarts.{leads_from}
use Rattle.la_durable.proofs.first.first_journal.Goals as goal

pub returns-clause-leads : goal.returns-clause-leads
returns-clause-leads c =
    subst (λ (q : ReplicaState). leads_from q c.in_ok-new_journal.field-0.items ≡ Some q)
    (ap kept_by c.in_ok-machine.ensures.start) c.in_ok-new_journal.ensures.leads
