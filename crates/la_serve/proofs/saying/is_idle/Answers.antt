use Rattle.std.proofs.Common.{◌∙◌}
use Rattle.la_durable.specs.Nodes.{kept_by}
use Rattle.la_serve.proofs.SaidTurns.{idle_as_said}
use Rattle.la_serve.proofs.saying.is_idle.Goals as goal

pub returns : goal.returns
returns c = c.wants_standing.ensures ∙ idle_as_said (kept_by c.args.machine.now) c.args.letter.now
