use Rattle.la_world.proofs.Repeats.{repeats_sent}
use Rattle.la_world.proofs.laws.repeats_were_sent.Goals as goal

pub returns : goal.returns
returns c = repeats_sent
