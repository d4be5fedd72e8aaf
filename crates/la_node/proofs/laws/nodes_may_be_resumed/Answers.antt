use Rattle.la_node.proofs.Resuming.{may_resume_node-Decides}
use Rattle.la_node.proofs.laws.nodes_may_be_resumed.Goals as goal

pub returns : goal.returns
returns c node = may_resume_node-Decides node
