use Rattle.la_serve.proofs.Processes.{all_kept, events_kept}
use Rattle.la_serve.proofs.laws.processes_together_keep_promises.Goals as goal

pub returns-clause-all : goal.returns-clause-all
returns-clause-all c = all_kept c.replicas_together_keep_promises.ensures.all

pub returns-clause-events : goal.returns-clause-events
returns-clause-events c = events_kept c.replicas_together_keep_promises.ensures.events
