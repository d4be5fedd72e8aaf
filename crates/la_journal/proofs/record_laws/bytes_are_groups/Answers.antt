use Rattle.la_journal.proofs.RecordLaws as laws
use Rattle.la_journal.proofs.record_laws.bytes_are_groups.Goals as goal

pub returns : goal.returns
returns c = laws.bytes_are_groups
