use Rattle.la_journal.proofs.Untold as untold
use Rattle.la_journal.proofs.record_laws.torn_is_no_damage.Goals as goal

pub returns : goal.returns
returns c = untold.torn_is_no_damage
