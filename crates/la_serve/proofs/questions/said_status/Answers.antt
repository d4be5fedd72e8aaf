use Rattle.std.proofs.Common.{ap, ◌∙◌}
use Rattle.la_durable.specs.Nodes.{kept_by}
use Rattle.la_wire.specs.Status.{status_note}
use Rattle.la_serve.specs.Said.{told_status}
use Rattle.la_serve.proofs.questions.said_status.Goals as goal

pub returns-in-Ok : goal.returns-in-Ok
returns-in-Ok c = (
  c.args.tally,
  c.in-Ok.ensures
      ∙ ap (λ s. status_note s c.node_version.result.now c.args.name.now) c.status_of-status.ensures
      ∙ ap (λ v. status_note (told_status (kept_by c.args.machine.now) c.args.known c.args.tally) v c.args.name.now)
      c.node_version.ensures,
)
