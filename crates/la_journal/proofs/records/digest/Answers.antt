use Rattle.std.proofs.Common.{rules}
use Rattle.la_journal.specs.Records.{digest}
use Rattle.la_journal.proofs.records.digest.Goals as goal

pub returns : goal.returns
unfolding digest
returns c = search rules
