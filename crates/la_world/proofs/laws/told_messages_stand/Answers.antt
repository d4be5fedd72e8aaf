use Rattle.la_world.proofs.Tellings.{told_messages_stand}
use Rattle.la_world.proofs.laws.told_messages_stand.Goals as goal

pub returns : goal.returns
returns c = told_messages_stand
