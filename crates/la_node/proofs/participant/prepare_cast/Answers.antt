use Rattle.std.proofs.Common.{◌+◌, subst₂}
use Rattle.la_replica.specs.Whole.{whole_out}
use Rattle.la_replica.specs.Changes.{LeadsThere}
use Rattle.la_node.proofs.participant.prepare_cast.Goals as goal

pub returns-in-Ok-clause-leads : goal.returns-in-Ok-clause-leads
returns-in-Ok-clause-leads c =
    subst₂ (λ k op. LeadsThere c.args.replica.now (c.args.instance + 1) (record { object = k; op = op }) (whole_out c.in-Ok.prepared.0) c.in-Ok.prepared.1)
    c.commit_of.ensures c.from.ensures c.in-Ok.ensures.ok.leads
