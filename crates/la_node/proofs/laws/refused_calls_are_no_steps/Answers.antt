use Rattle.la_node.proofs.lemmas.Stepping.{refusals}
use Rattle.la_node.proofs.laws.refused_calls_are_no_steps.Goals as goal

pub returns : goal.returns
returns c = refusals
