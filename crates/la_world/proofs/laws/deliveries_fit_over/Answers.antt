use Rattle.la_world.proofs.RebasedReceipts.{deliveries_fit_over}
use Rattle.la_world.proofs.laws.deliveries_fit_over.Goals as goal

pub returns : goal.returns
returns c = deliveries_fit_over
