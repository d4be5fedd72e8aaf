use Rattle.la_journal.proofs.Digests.{record_where}
use Rattle.la_journal.proofs.records.is_record_of.Goals as goal

pub returns-in-Some : goal.returns-in-Some
returns-in-Some c =
    record_where c.is_spaced.result c.args.count c.args.line.now c.args.before.now c.args.group.now c.in-Some.end.now
    c.digest.result c.in-Some.ensures c.digest.ensures c.is_spaced.ensures
