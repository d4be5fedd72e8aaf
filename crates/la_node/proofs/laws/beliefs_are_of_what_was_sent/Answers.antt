use Rattle.la_node.proofs.LinkRuns.{bounded, lacking}
use Rattle.la_node.proofs.laws.beliefs_are_of_what_was_sent.Goals as goal

pub returns-clause-bounded : goal.returns-clause-bounded
returns-clause-bounded c = bounded

pub returns-clause-lacking : goal.returns-clause-lacking
returns-clause-lacking c = lacking
