use Rattle.la_world.proofs.RebasedReceipts.{parcels_fit}
use Rattle.la_world.proofs.laws.parcels_fit.Goals as goal

pub returns : goal.returns
returns c = parcels_fit
