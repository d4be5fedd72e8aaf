use Rattle.la_world.proofs.LiveParcels.{parcels_live}
use Rattle.la_world.proofs.live.parcel_receipts_keep_live.Goals as goal

pub returns : goal.returns
returns c = parcels_live
