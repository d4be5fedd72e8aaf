use Rattle.la_replica.proofs.lemmas.Still.{still_keeps, other_changes}
use Rattle.la_replica.proofs.laws.still_receipts_change_nothing.Goals as goal

pub returns-clause-still : goal.returns-clause-still
returns-clause-still c = still_keeps

pub returns-clause-other : goal.returns-clause-other
returns-clause-other c = other_changes
