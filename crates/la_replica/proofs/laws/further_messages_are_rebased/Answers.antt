use Rattle.la_replica.proofs.lemmas.Furthering.{further_is_rebased}
use Rattle.la_replica.proofs.laws.further_messages_are_rebased.Goals as goal

pub returns : goal.returns
returns c = further_is_rebased
