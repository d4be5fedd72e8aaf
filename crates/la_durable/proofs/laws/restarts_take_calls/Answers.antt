use Rattle.la_durable.proofs.Restarts.{restarts}
use Rattle.la_durable.proofs.laws.restarts_take_calls.Goals as goal

pub returns : goal.returns
returns c = restarts
