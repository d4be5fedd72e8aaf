use Rattle.la_replica.proofs.lemmas.Parcelling.{parcel_unwraps, parcel_based, parcel_unwrapped, parcel_alike}
use Rattle.la_replica.proofs.laws.parcels_unwrap.Goals as goal

pub returns-clause-stands : goal.returns-clause-stands
returns-clause-stands c = parcel_unwraps

pub returns-clause-base : goal.returns-clause-base
returns-clause-base c = parcel_based

pub returns-clause-same : goal.returns-clause-same
returns-clause-same c = parcel_unwrapped

pub returns-clause-alike : goal.returns-clause-alike
returns-clause-alike c = parcel_alike
