use Rattle.std.proofs.Common.{◌≡◌, length}
use Rattle.la_journal.specs.Commits.{groups, last_record}
use Rattle.la_journal.specs.Records.{record_line}
use Rattle.la_journal.proofs.memory_disk.is_unread.Given as goal

abbrev pub invariant-loop-group : goal.invariant-loop-group
invariant-loop-group l =
    last_record record_line l.before (groups record_line l.before l.rest)
    ≡ last_record record_line l.initial.before (groups record_line l.initial.before l.initial.rest)

abbrev pub decreases-loop-group : goal.decreases-loop-group
decreases-loop-group l = length l.rest
