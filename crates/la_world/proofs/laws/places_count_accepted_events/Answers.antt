use Rattle.la_world.proofs.Places.{place_counts}
use Rattle.la_world.proofs.laws.places_count_accepted_events.Goals as goal

pub returns : goal.returns
returns c = place_counts
