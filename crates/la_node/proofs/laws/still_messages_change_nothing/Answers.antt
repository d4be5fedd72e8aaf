use Rattle.la_node.proofs.lemmas.Still.{still_keeps}
use Rattle.la_node.proofs.laws.still_messages_change_nothing.Goals as goal

pub returns : goal.returns
returns c = still_keeps
