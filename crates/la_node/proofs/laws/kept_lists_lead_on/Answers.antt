use Rattle.la_node.proofs.Kept.{leads_on}
use Rattle.la_node.proofs.laws.kept_lists_lead_on.Goals as goal

pub returns : goal.returns
returns c = leads_on
